-- The longest report that any job can have. A line of a mark has at most 26 bytes and the digits of its region, a line of a bar at most
-- 12 and these; no region has more digits than four, and what a bar's region has fewer, a mark of that region has fewer too. So the
-- longest has 1,024 marks, one at each region, all of them bars of 1,000,000 ppm by a rule of two digits. Assumes nothing.
use Prim.Native.Nat.{ℕ, zero, suc, ◌+◌, ◌-◌, ◌*◌, ◌/◌, ◌%◌, ◌≤◌, ◌<◌}
use native.Mathlib.Omega.{arith}
use mathlib.Core.Path.{◌≡◌, refl, ap}
use mathlib.Core.Logic.{◌⊎◌, inl, inr}
use mathlib.Core.Bool.{Bool, true, false, cond}
use mathlib.Core.List.{List, [], ◌∷◌, ◌++◌}
use lib.Dec.{ltb, eqb}
use lib.ListN.{length, length-append}
use borrow.Author.Tests.{ltb-true, ltb-false}
use Rattle.model.specs.declared.Paint.{Paint}
use Rattle.model.specs.declared.Rule.{Rule}
use Rattle.model.specs.Ratio.{bar_cells}
use Rattle.model.specs.Run.{Run, Mark, RegionState, has_bar}
use Rattle.model.specs.Answer.{Summary, answer, answered, refused}
use Rattle.model.specs.Job.{rules_of, run_of, result}
use Rattle.laws.proofs.Ratio.{bar_cells_at_most}
use Rattle.laws.proofs.Results.{WholeJob, Refused, result_is}
use Rattle.grammar.specs.Parts.{bytes, times_text}
use Rattle.grammar.specs.Numbers.{digits, decimal_text, hex_digit, hex_digits}
use Rattle.grammar.proofs.Decimals.{top}
use Rattle.reporttext.specs.Report as Report
use Rattle.reporttext.specs.Report.{or_dash, has_colour, paint_text, mark_line, bar_line, bar_lines, summary_text, shaped_at, report_of}
use Rattle.reporttext.specs.Reports.{job_report}
use Rattle.reporttext.specs.Longest.{longest, Longest}
use Rattle.reporttext.proofs.Shown.{report_answered, report_refused}
use Rattle.reporttext.proofs.Painted.{SmallPaint}
use Rattle.reporttext.proofs.Runs.{SmallMark, SmallMarks, SmallState, SmallStates, spare, marks_spare, bar_spare, bars_spare}
use Rattle.reporttext.proofs.Jobs.{SmallJob, small_job}

-- ---- numbers

-- at most k + 1 digits, and at most as many as its size asks for
digits_most : (k n : ℕ) → length (digits k n) ≤ suc k
unfolding digits
digits_most zero n = omega arith
digits_most (suc k) n = go (ltb n 10) (digits_most k (n / 10))
  where
    go : (b : Bool) → length (digits k (n / 10)) ≤ suc k
        → length (cond b ((48 + n) ∷ []) (digits k (n / 10) ++ ((48 + n % 10) ∷ []))) ≤ suc (suc k)
    go true h = omega arith
    go false h = omega (arith, length-append (digits k (n / 10)) ((48 + n % 10) ∷ []))

digits_few : (k j n : ℕ) → n < top j → length (digits k n) ≤ suc j
unfolding digits
digits_few zero j n h = omega arith
digits_few (suc k) zero n h = go (ltb n 10) refl
  where
    go : (b : Bool) → ltb n 10 ≡ b → length (cond b ((48 + n) ∷ []) (digits k (n / 10) ++ ((48 + n % 10) ∷ []))) ≤ 1
    go true e = omega arith
    go false e = absurd (omega (arith, ltb-false n 10 e))
digits_few (suc k) (suc j) n h = go (ltb n 10) (digits_few k j (n / 10) (omega arith))
  where
    go : (b : Bool) → length (digits k (n / 10)) ≤ suc j
        → length (cond b ((48 + n) ∷ []) (digits k (n / 10) ++ ((48 + n % 10) ∷ []))) ≤ suc (suc j)
    go true i = omega arith
    go false i = omega (arith, length-append (digits k (n / 10)) ((48 + n % 10) ∷ []))

number_length : (end n : ℕ) → length (Report.number end n) ≡ length (decimal_text n) + 1
number_length end n = length-append (decimal_text n) (end ∷ [])

-- a text of at most n bytes
pub record Most (n : ℕ) (xs : List ℕ) : Type 0 where
  pub bytes : length xs ≤ n

-- a number with the byte that ends it
pub number_most : (end n : ℕ) → Most 21 (Report.number end n)
number_most end n = record { bytes = omega (arith, number_length end n, digits_most 19 n) }

number_few : (end j n : ℕ) → n < top j → Most (suc j + 1) (Report.number end n)
number_few end j n h = record { bytes = omega (arith, number_length end n, digits_few 19 j n h) }

-- the number of a region, of at most four digits
region_few : (end n : ℕ) → n < 1024 → length (Report.number end n) + spare n ≤ 5
unfolding spare
region_few end n h = go (ltb n 10) (ltb n 100) (ltb n 1000) refl refl refl
  where
    go : (a b c : Bool) → ltb n 10 ≡ a → ltb n 100 ≡ b → ltb n 1000 ≡ c
        → length (Report.number end n) + cond a 3 (cond b 2 (cond c 1 0)) ≤ 5
    go true b c e f g = omega (arith, (number_few end 0 n (ltb-true n 10 e)).bytes)
    go false true c e f g = omega (arith, (number_few end 1 n (ltb-true n 100 f)).bytes)
    go false false true e f g = omega (arith, (number_few end 2 n (ltb-true n 1000 g)).bytes)
    go false false false e f g = omega (arith, (number_few end 3 n (omega arith)).bytes)

-- ---- lines

pub joined : {xs ys : List ℕ} {m n : ℕ} → Most m xs → Most n ys → Most (m + n) (xs ++ ys)
joined {xs} {ys} a b = record { bytes = omega (arith, length-append xs ys, a.bytes, b.bytes) }

or_dash_most : (there : Bool) (end : ℕ) {n : ℕ} {text : List ℕ} → 2 ≤ n → Most n text → Most n (or_dash there end text)
or_dash_most true end h a = a
or_dash_most false end h a = record { bytes = h }

hex_length : (k n : ℕ) → length (hex_digits k n) ≡ k
unfolding hex_digits
hex_length zero n = refl
hex_length (suc k) n = omega (arith, length-append (hex_digits k (n / 16)) (hex_digit (n % 16) ∷ []), hex_length k (n / 16))

colour_few : (end c : ℕ) → Most 7 (Report.colour end c)
colour_few end c = record { bytes = omega (arith, length-append (hex_digits 6 c) (end ∷ []), hex_length 6 c) }

paint_few : (shaped : Bool) (p : Paint) → SmallPaint p → Most 22 (paint_text shaped p)
unfolding paint_text
paint_few shaped p h =
    joined (number_few 32 0 p.kind (omega (arith, h.kind))) (
    joined (or_dash_most (has_colour p) 32 (omega arith) (colour_few 32 p.colour)) (
    joined (or_dash_most (has_bar p) 32 (omega arith) (number_few 32 6 p.ppm (omega (arith, h.ppm)))) (
    joined (or_dash_most (has_bar p) 32 (omega arith)
    (number_few 32 1 (bar_cells p.ppm) (omega (arith, bar_cells_at_most p.ppm h.ppm))))
    (or_dash_most shaped 10 (omega arith) (number_few 10 0 p.shape (omega (arith, h.shape)))))))

module _ (shaped : ℕ → Bool) where
  mark_few : (m : Mark) → SmallMark 1024 m → length (mark_line shaped m) + spare m.region ≤ 30
  unfolding mark_line
  mark_few m h =
      let rest = joined (number_few 32 1 m.rule (omega (arith, h.rule))) (paint_few (shaped m.rule) m.paint h.paint) in
      omega (
        arith,
        length-append (Report.number 32 m.region) (Report.number 32 m.rule ++ paint_text (shaped m.rule) m.paint),
        rest.bytes,
        region_few 32 m.region h.region,
      )

  marks_few : (ms : List Mark) → SmallMarks 1024 ms → length (times_text (mark_line shaped) ms) + marks_spare ms ≤ 30 * length ms
  unfolding times_text marks_spare
  marks_few [] h = omega arith
  marks_few (m ∷ ms) h =
      omega (arith, length-append (mark_line shaped m) (times_text (mark_line shaped) ms), mark_few m h.0, marks_few ms h.1)

-- ---- bars

-- what the lines of n bars from region g on may have, the marks of these regions having fewer digits too
unfoldable room : ℕ → ℕ → ℕ
room g zero = 0
room g (suc n) = (16 - 2 * spare g) + room (suc g) n

room_more : (g n m : ℕ) → n ≤ m → room g n ≤ room g m
unfolding room
room_more g zero m h = omega arith
room_more g (suc n) zero h = absurd (omega arith)
room_more g (suc n) (suc m) h = omega (arith, room_more (suc g) n m (omega arith))

room_all : room 0 1024 ≡ 14_164
unfolding room spare
room_all = refl

bar_few : (g : ℕ) (s : RegionState) → g < 1024 → SmallState s → length (bar_line g s) ≤ bar_spare g s + (16 - 2 * spare g)
unfolding bar_line bar_spare
bar_few g s h a = go (eqb s.bar_rule 0)
  where
    rest : Most 11 (Report.number 32 (s.bar_rule - 1) ++ Report.number 10 s.bar_ppm)
    rest = joined (number_few 32 1 (s.bar_rule - 1) (omega (arith, a.rule))) (number_few 10 6 s.bar_ppm (omega (arith, a.ppm)))

    go : (b : Bool)
        → length (cond b [] (Report.number 32 g ++ (Report.number 32 (s.bar_rule - 1) ++ Report.number 10 s.bar_ppm)))
        ≤ cond b 0 (spare g) + (16 - 2 * spare g)
    go true = omega arith
    go false =
        omega (
          arith,
          length-append (Report.number 32 g) (Report.number 32 (s.bar_rule - 1) ++ Report.number 10 s.bar_ppm),
          rest.bytes,
          region_few 32 g h,
        )

bars_few : (g : ℕ) (ss : List RegionState) → g + length ss ≤ 1024 → SmallStates ss
    → length (bar_lines g ss) ≤ bars_spare g ss + room g (length ss)
unfolding bar_lines bars_spare room
bars_few g [] h a = omega arith
bars_few g (s ∷ ss) h a =
    omega (
      arith,
      length-append (bar_line g s) (bar_lines (suc g) ss),
      bar_few g s (omega arith) a.0,
      bars_few (suc g) ss (omega arith) a.1,
    )

-- ---- the first two lines

summary_names : length Report.summary_names ≡ 52
unfolding bytes Report.summary_names
summary_names = refl

mark_names : length Report.mark_names ≡ 40
unfolding bytes Report.mark_names
mark_names = refl

bar_names : length Report.bar_names ≡ 19
unfolding bytes Report.bar_names
bar_names = refl

names_most : Most 52 Report.summary_names
names_most = record { bytes = omega (arith, summary_names) }

-- the two lines of any refusal
pub summary_most : (s : Summary) → length (summary_text s) ≤ 199
unfolding summary_text Report.summary_line
summary_most s =
    (joined names_most (
    joined (number_most 32 s.number) (
    joined (number_most 32 s.place) (
    joined (number_most 32 s.count) (
    joined (number_most 32 s.actual) (
    joined (number_most 32 s.marks) (joined (number_most 32 s.deferred) (number_most 10 s.simplified)))))))
    ).bytes

answer_few : (count marks deferred simplified : ℕ) → marks ≤ 1024 → deferred ≤ 64 → simplified ≤ 64
    → length (summary_text (answer count marks deferred simplified)) ≤ 90
unfolding summary_text Report.summary_line answer
answer_few count marks deferred simplified h k l =
    (joined names_most (
    joined (number_few 32 0 0 (omega arith)) (
    joined (number_few 32 0 0 (omega arith)) (
    joined (number_most 32 count) (
    joined (number_few 32 0 0 (omega arith)) (
    joined (number_few 32 3 marks (omega arith)) (
    joined (number_few 32 1 deferred (omega arith)) (number_few 10 1 simplified (omega arith))))))))
    ).bytes

-- ---- the report

answered_most : (rules : List Rule) (count : ℕ) (r : Run) → SmallJob r → length r.marks ≤ 1024
    → length (report_of rules (answered count r)) ≤ longest
unfolding answered answer Report.marks_text Report.bars_text bars_spare
answered_most rules count r h few =
    let shaped = shaped_at rules in
    let small = h.run in
    let head = answer_few count (length r.marks) r.deferred r.simplified few small.deferred small.simplified in
    let marks = marks_few shaped r.marks small.marks in
    let bars = bars_few 0 r.states (omega (arith, h.states)) small.states in
    let all = room_more 0 (length r.states) 1024 h.states in
    let text = report_answered rules (answered count r) refl in
    omega (
      arith,
      ap length text,
      head,
      marks,
      bars,
      all,
      room_all,
      small.spared,
      mark_names,
      bar_names,
      length-append (summary_text (answered count r).summary) (Report.marks_text shaped r.marks ++ Report.bars_text r.states),
      length-append (Report.marks_text shaped r.marks) (Report.bars_text r.states),
      length-append Report.mark_names (times_text (mark_line shaped) r.marks),
      length-append Report.bar_names (bar_lines 0 r.states),
    )

-- a refusal, of a text too
pub refused_most : (rules : List Rule) (s : Summary) → (s.number ≡ 0 → ⊥) → length (report_of rules (refused s)) ≤ 199
unfolding refused
refused_most rules s h = omega (arith, ap length (report_refused rules (refused s) h), summary_most s)

pub longest_holds : Longest
longest_holds j limit l space = go (result_is j limit l)
  where
    go : WholeJob j limit l ⊎ Refused (result j limit l) → length (job_report j limit l) ≤ longest
    go (inl w) = rw w.run.is (answered_most (rules_of j) _ (run_of j) (small_job j w.well_formed) (omega (arith, w.run.fits)))
    go (inr w) = rw w.is (omega (arith, refused_most (rules_of j) w.why w.number))
