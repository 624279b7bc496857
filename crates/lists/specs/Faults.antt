-- What is said of a fault, and a number with one digit more.
use Rattle.std.specs.Prelude.{ℕ, ◌+◌, ◌-◌, ◌*◌, ◌^◌, leb, ltb, ◌&&◌, cond, List, Option, Some, Result, Ok, Err, codes}
use Rattle.lists.specs.declared.Fault.{Fault}

abbrev pub told : Fault → Option (List ℕ)
told Fault.EndsEarly = Some (codes "the list ends early")
told Fault.OtherWord = Some (codes "another word is due")
told Fault.NoNumber = Some (codes "no number")
told Fault.TooLarge = Some (codes "a number too large")
told Fault.OtherCount = Some (codes "the list has another number of jobs")
told Fault.PastLastRun = Some (codes "the list goes on past its last run")
told Fault.PastEnd = Some (codes "the list goes on past its end")
told Fault.Unreadable = Some (codes "the list cannot be read")

-- ten times the number and the digit, if the byte is one and the number is below 2 ^ 64
abbrev pub longer : ℕ → ℕ → Result ℕ Fault
longer number digit =
    let more = number * 10 + (digit - 48) in
    cond (leb 48 digit && leb digit 57) (cond (ltb more (2 ^ 64)) (Ok more) (Err Fault.TooLarge)) (Err Fault.NoNumber)
