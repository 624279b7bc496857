-- What is handed from deciding a rule to the writing of its marks, held against the step of the definition. Assumes nothing.
use Rattle.std.specs.Prelude.{ℕ, ◌≡◌, Bool, cond, List, Float, length, take}
use Rattle.hits.specs.Hits.{hits_from}
use Rattle.turns.specs.Step.{Step}
use Rattle.turns.specs.Emit.{Paints}
use Rattle.call.specs.declared.Decided.{Decided}

-- `hits` are the regions that the rule paints, at the front of a table
pub record Decides (s : Step) (imported : Bool) (values : List Float) (hits : List ℕ) (d : Decided) : Type 0 where
  pub charged : d.charged ≡ s.charged
  pub deferred : cond d.deferred 1 0 ≡ s.deferred
  pub simplified : cond d.simplified 1 0 ≡ s.simplified
  pub count : d.count ≡ length (hits_from 0 s.outcomes)
  pub painted : take d.count hits ≡ hits_from 0 s.outcomes
  pub paints : Paints d.test imported values s.outcomes
