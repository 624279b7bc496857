-- What is known after a failure.
use Rattle.std.specs.Prelude.{ℕ, List, Option}
use Rattle.std.specs.Io.KnownBytes.{Keeps}
use Rattle.std.specs.declared.io.Error.{Error}
use Rattle.streams.specs.declared.Failure.{Failure}
use Rattle.streams.specs.declared.Failure.TheVariants.{Reading, Writing}

-- why it failed
abbrev pub cause : Failure → Error
cause (Reading e) = e
cause (Writing e) = e

-- what is known of written bytes after a failure: nothing is added where reading failed
abbrev pub Left : Failure → Option (List ℕ) → Option (List ℕ) → Type 0
Left (Reading e) old new = Keeps old new
Left (Writing e) old new = Unit {0}
