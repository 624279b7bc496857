-- One rule with its marks: what was decided, written out by the regions that the rule paints, is the definition's turn. Assumes nothing.
use Prim.Native.Nat.{ℕ, ◌+◌, ◌≤◌, ◌<◌}
use native.Mathlib.Omega.{arith}
use mathlib.Core.Path.{◌≡◌, refl, sym, ap, ◌∙◌}
use mathlib.Core.Bool.{Bool, true, false, cond}
use mir.Val.{bool_byte}
use mathlib.Core.List.{List, map}
use lib.Ieee.{Float, nan}
use lib.ListN.{length, get_or, take}
use lib.Seq.{get_or-take, length-take-le}
use Rattle.model.specs.Run.{IndexedRule}
use Rattle.plans.specs.Plans.{is_bar_test}
use Rattle.hits.specs.Painted.{ppm_by}
use Rattle.settling.specs.declared.Ran.{Ran}
use Rattle.turns.specs.Step.{Step}
use Rattle.turns.specs.Emit.{MarkColumns, BarColumns, hit_mark, put_marks, draw_hits, stop_hits}
use Rattle.turns.specs.Turns.{State, state_of, turn}
use Rattle.turns.proofs.Laws.{turn_made}
use Rattle.turns.proofs.Painted.{stops_hits}
use Rattle.turns.proofs.Hits.{hits_marks}
use Rattle.call.specs.declared.Decided.{Decided}
use Rattle.call.specs.Decides.{Decides}

-- the entries at the front of a table
pub front_below : (hits : List ℕ) (count n m : ℕ) → count ≤ length hits → n ≤ m → ((k : ℕ) → k < count → get_or hits k 0 < n)
    → (k : ℕ) → k < length (take count hits) → get_or (take count hits) k 0 < m
front_below hits count n m short fits below k h =
    let here : k < count = omega (arith, h, length-take-le count hits short) in
    rw (get_or-take count hits k 0 here) (omega (arith, fits, below k here))

-- a rule that does not stop leaves the flags
pub flags_kept : (stop : Bool) (painted flags new : List ℕ) → new ≡ cond stop (stop_hits painted flags) flags → stop ≡ false → new ≡ flags
flags_kept stop painted flags new e none = e ∙ ap (λ (b : Bool). cond b (stop_hits painted flags) flags) none

abbrev pub ran_by : Ran → Decided → ℕ → ℕ → Ran
ran_by ran d deferred simplified =
    record {
      charged = d.charged;
      marks = ran.marks + d.count;
      deferred = ran.deferred + deferred;
      simplified = ran.simplified + simplified;
    }

pub byte_is : (b : Bool) → bool_byte b ≡ cond b 1 0
byte_is true = refl
byte_is false = refl

module _ (i : IndexedRule) (s : Step) (st : State) (values : List Float) (hits : List ℕ) (d : Decided)
    (h : Decides s i.rule.imported values hits d) where
  abbrev stopped : List ℕ → List ℕ
  stopped painted = cond i.rule.stop (stop_hits painted st.flags) st.flags

  abbrev marked : List ℕ → MarkColumns
  marked painted = put_marks st.marks st.ran.marks (map (hit_mark d.test i.rule.imported values i.index) painted)

  abbrev drawn : List ℕ → BarColumns
  drawn painted =
      cond (is_bar_test d.test) (draw_hits i.index (λ p. ppm_by d.test (get_or values p nan)) painted st.bars) st.bars

  pub turn_decided : (flags : List ℕ) (marks : MarkColumns) (bars : BarColumns) → flags ≡ stopped (take d.count hits)
      → marks ≡ marked (take d.count hits) → bars ≡ drawn (take d.count hits)
      → (deferred simplified : ℕ) → deferred ≡ cond d.deferred 1 0 → simplified ≡ cond d.simplified 1 0
      → state_of (ran_by st.ran d deferred simplified) flags marks bars ≡ turn i s st
  turn_decided flags marks bars f m b deferred simplified p q =
      (λ k. state_of (record {
        charged = h.charged k;
        marks = st.ran.marks + d.count;
        deferred = st.ran.deferred + (p ∙ h.deferred) k;
        simplified = st.ran.simplified + (q ∙ h.simplified) k;
      }) flags marks bars)
      ∙ turn_made i s st d.count flags marks bars (h.count ∙ sym (hits_marks i.index 0 s.outcomes))
      (f ∙ ap stopped h.painted ∙ sym (stops_hits i.rule.stop 0 s.outcomes st.flags))
      (m ∙ ap marked h.painted ∙ ap (put_marks st.marks st.ran.marks) (sym (h.paints.marks i.index)))
      (b ∙ ap drawn h.painted ∙ sym (h.paints.bars i.index st.bars))
