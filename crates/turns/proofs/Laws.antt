-- The rules in turn come to the definition's run: what they charge, and, where all charges are accepted, their counts, the marks and the
-- bars. Once a charge is refused it stays refused. Assumes nothing.
use Rattle.charging.specs.declared.ChargeError.{ChargeError}
use Rattle.std.specs.Prelude.{Ok, Err}
use Prim.Native.Nat.{ℕ, ◌+◌, ◌≤◌}
use native.Mathlib.Omega.{arith}
use mathlib.Core.Path.{◌≡◌, refl, sym, ap, ◌∙◌}
use mathlib.Core.List.{List, [], ◌∷◌}
use lib.ListN.{length, length-append}
use Rattle.charging.specs.declared.Counter.{Counter}
use Rattle.charging.specs.Charge.{Charged, and_then, spend}
use Rattle.model.specs.declared.Rule.{Rule}
use Rattle.model.specs.Sheet.{Sheet}
use Rattle.model.specs.Run.{Mark, RegionState, Run, IndexedRule, unmarked, step, followed_by, run_from}
use Rattle.turns.specs.Emit.{MarkColumns, BarColumns, put_marks, draw_bars, stops}
use Rattle.turns.specs.Step.{Step}
use Rattle.turns.specs.Turns.{State, state_of, marks_of, ran_after, turn, turns}
use Rattle.turns.proofs.Charges.{spend_in_two}
use Rattle.turns.proofs.Judging.{StoppedBy}
use Rattle.turns.proofs.Stepping.{Says, Stepped}
use Rattle.turns.proofs.Marks.{put_marks_append}
use Rattle.turns.proofs.States.{bars_of, bars_after, length_stops, stops_after}

-- ---- what is carried from one rule to the next

-- the flags and the bar columns hold what the rules so far left at the n regions
pub record Held (n a b : ℕ) (states : List RegionState) (st : State) : Type 0 where
  pub stopped : StoppedBy st.flags 0 n states
  pub flags : n ≤ length st.flags
  pub bars : st.bars ≡ bars_of a b states

-- the counts and columns of `last` are those of `st` and of the run after it
pub record Written (a b : ℕ) (r : Run) (st last : State) : Type 0 where
  pub count : last.ran.marks ≡ st.ran.marks + length r.marks
  pub deferred : last.ran.deferred ≡ st.ran.deferred + r.deferred
  pub simplified : last.ran.simplified ≡ st.ran.simplified + r.simplified
  pub marks : last.marks ≡ put_marks st.marks st.ran.marks r.marks
  pub bars : last.bars ≡ bars_of a b r.states

pub record Carried (limit a b : ℕ) (r : Run) (st last : State) : Type 0 where
  pub charged : last.ran.charged ≡ and_then st.ran.charged (λ c. spend limit c r.charges)
  pub written : (c : Counter) → last.ran.charged ≡ Ok c → Written a b r st last

-- what is said of each rule is the definition's, and nothing more once a charge was refused
pub record Saying (s : Sheet) (limit n : ℕ) (say : Rule → Charged → List ℕ → Step) : Type 0 where
  pub steps : (i : IndexedRule) (states : List RegionState) (charged : Charged) (flags : List ℕ) → StoppedBy flags 0 n states
      → Stepped s i states limit charged (say i.rule charged flags)
  pub refused : (r : Rule) (e : ChargeError) (flags : List ℕ) → (say r (Err e) flags).charged ≡ Err e

-- ---- one rule

-- a state from its parts
pub turn_made : (i : IndexedRule) (said : Step) (st : State) (count : ℕ) (flags : List ℕ) (marks : MarkColumns) (bars : BarColumns)
    → count ≡ length (marks_of i.index said)
    → flags ≡ stops i.rule.stop 0 said.outcomes st.flags
    → marks ≡ put_marks st.marks st.ran.marks (marks_of i.index said)
    → bars ≡ draw_bars i.index 0 said.outcomes st.bars
    → state_of (ran_after st.ran said count) flags marks bars ≡ turn i said st
unfolding turn
turn_made i said st count flags marks bars c f m b = λ k. state_of (ran_after st.ran said (c k)) (f k) (m k) (b k)

-- ---- the rules in turn

then_none : (limit : ℕ) (x : Charged) → x ≡ and_then x (λ c. spend limit c [])
unfolding and_then spend
then_none limit (Ok c) = refl
then_none limit (Err e) = refl

refused_then : (x : Charged) (e : ChargeError) (f : ℕ → Charged) → x ≡ Err e → Err e ≡ and_then x f
unfolding and_then
refused_then x e f is = rw is

put_none : (c : MarkColumns) (n : ℕ) → c ≡ put_marks c n []
unfolding put_marks
put_none c n = refl

module _ (s : Sheet) (limit n a b : ℕ) (say : Rule → Charged → List ℕ → Step) (saying : Saying s limit n say) where
  refused_stays : (is : List IndexedRule) (st : State) (e : ChargeError) → st.ran.charged ≡ Err e
      → (turns say is st).ran.charged ≡ Err e
  unfolding turns turn
  refused_stays [] st e h = h
  refused_stays (i ∷ is) st e h =
      refused_stays is (turn i (say i.rule st.ran.charged st.flags) st) e (rw h (saying.refused i.rule e st.flags))

  module _ (i : IndexedRule) (states : List RegionState) (st : State) (r : Step) (h : Held n a b states st) (y : Says s i states r) where
    -- the rule's own marks, counts and bars
    turn_written : n ≤ a → n ≤ b → Written a b (step s i states) st (turn i r st)
    unfolding turn
    turn_written p q =
        record {
          count = ap (λ (l : List Mark). st.ran.marks + length l) (sym y.marks);
          deferred = ap (λ (k : ℕ). st.ran.deferred + k) (sym y.deferred);
          simplified = ap (λ (k : ℕ). st.ran.simplified + k) (sym y.simplified);
          marks = ap (put_marks st.marks st.ran.marks) (sym y.marks);
          bars =
              rw (h.bars, y.states)
              (bars_after i.index i.rule.stop a b states r.outcomes y.short (omega (arith, h.stopped.many)) (omega
              (arith, h.stopped.many)));
        }

    turn_held : n ≤ a → n ≤ b → Held n a b (step s i states).states (turn i r st)
    unfolding turn
    turn_held p q =
        record {
          stopped =
              rw y.states
              (stops_after i.index i.rule.stop st.flags n states r.outcomes h.stopped (omega
              (arith, y.short, h.stopped.many)) h.flags);
          flags = omega (arith, h.flags, length_stops i.rule.stop 0 r.outcomes st.flags);
          bars = (turn_written p q).bars;
        }

  -- a rule, and those after it
  written_next : (first later : Run) (st mid last : State) → Written a b first st mid → Written a b later mid last
      → Written a b (followed_by first later) st last
  unfolding followed_by
  written_next first later st mid last f l =
      let long = length-append first.marks later.marks in
      record {
        count = omega (arith, f.count, l.count, long);
        deferred = omega (arith, f.deferred, l.deferred);
        simplified = omega (arith, f.simplified, l.simplified);
        marks =
            l.marks ∙ rw (f.marks, f.count) (sym (put_marks_append st.marks st.ran.marks first.marks later.marks));
        bars = l.bars;
      }

  module _ (i : IndexedRule) (is : List IndexedRule) (states : List RegionState) (st : State) (p : n ≤ a) (q : n ≤ b)
      (h : Held n a b states st) where
    abbrev said : Step
    said = say i.rule st.ran.charged st.flags

    abbrev next : State
    next = turn i said st

    abbrev first : Run
    first = step s i states

    stepped : Stepped s i states limit st.ran.charged said
    stepped = saying.steps i states st.ran.charged st.flags h.stopped

    -- what the charges come to with those of the rules after it
    charged_next : (later : Run) (x : Charged) → x ≡ and_then said.charged (λ c. spend limit c later.charges)
        → x ≡ and_then st.ran.charged (λ c. spend limit c (followed_by first later).charges)
    unfolding followed_by
    charged_next later x e =
        e ∙ ap (λ (y : Charged). and_then y (λ c. spend limit c later.charges)) stepped.charged
        ∙ sym (spend_in_two limit st.ran.charged first.charges later.charges)

    carried_next : (Held n a b first.states next → Carried limit a b (run_from s is first.states) next (turns say is next))
        → Carried limit a b (followed_by first (run_from s is first.states)) st (turns say is next)
    unfolding turn
    carried_next later = go said.charged refl
      where
        go : (x : Charged) → said.charged ≡ x → Carried limit a b (followed_by first (run_from s is first.states)) st (turns say is next)
        go (Ok c) e =
            let y = stepped.says c e in
            let l = later (turn_held i states st said h y p q) in
            record {
              charged = charged_next (run_from s is first.states) _ l.charged;
              written = λ d f. written_next first (run_from s is first.states) st next (turns say is next)
                  (turn_written i states st said h y p q) (l.written d f);
            }
        go (Err error) e =
            let last = refused_stays is next error e in
            record {
              charged = charged_next (run_from s is first.states) _ (last ∙ refused_then said.charged error _ e);
              written = λ d f. absurd (let no : ◌≡◌ {A = ℕ} 0 1 = cc (sym last ∙ f) in omega arith);
            }

  pub turns_carried : n ≤ a → n ≤ b → (is : List IndexedRule) (states : List RegionState) (st : State) → Held n a b states st
      → Carried limit a b (run_from s is states) st (turns say is st)
  unfolding turns run_from unmarked
  turns_carried p q [] states st h =
      record {
        charged = then_none limit st.ran.charged;
        written = λ c e. record {
          count = omega arith;
          deferred = omega arith;
          simplified = omega arith;
          marks = put_none st.marks st.ran.marks;
          bars = h.bars;
        };
      }
  turns_carried p q (i ∷ is) states st h =
      carried_next i is states st p q h
      (turns_carried p q is (step s i states).states (turn i (say i.rule st.ran.charged st.flags) st))
