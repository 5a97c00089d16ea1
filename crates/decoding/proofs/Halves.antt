-- The two halves of a decode: what the lists hold of them, and what their decodes come to. Assumes nothing.
use mathlib.Core.Path.{◌≡◌, sym, ap, ap₂, ◌∙◌, subst, fun_ext}
use mathlib.Core.Bool.{Bool, true, ◌&&◌}
use mathlib.Core.List.{List, ◌++◌}
use Prim.Native.Nat.{ℕ, ◌+◌, ◌-◌, ◌≤◌, ◌<◌}
use native.Mathlib.Nat.{zero-add, add_assoc}
use native.Mathlib.Omega.{arith}
use lib.Dec.{eqb, ltb}
use lib.ListN.{length, get_or, take, drop, length-drop, length-append}
use lib.Seq.{get_or-drop, take_all}
use borrow.Author.Tests.{le-leb}
use Rattle.binary.specs.Meaning.{Row, All, has, Commute, commute?}
use Rattle.binary.specs.Words.{listed}
use Rattle.binary.proofs.Bits.{and_in}
use Rattle.binary.proofs.Tests.{commute_test}
use Rattle.code.specs.Lists.{rows_from, Flat}
use Rattle.code.specs.Tests.{Ascending}
use Rattle.incidence.specs.Incidence.{number_on, Listed}
use Rattle.code.proofs.Flat.{rows_first, rows_second}
use Rattle.commuting.proofs.Sharing.{commute_symmetric}
use Rattle.machine.specs.declared.HalfReport.{HalfReport}
use Rattle.machine.specs.Machine.{Half}
use Rattle.machine.specs.Report.{outcome}
use Rattle.machine.specs.Lists.{HalfLists}
use Rattle.std.specs.Prelude.{Option}
use Rattle.halves.specs.Starts.{RowsObey}
use Rattle.scans.specs.Rows.{RowLists, ListedIn}
use Rattle.halves.specs.Decode.{Given, enough_in?, Decodes}
use Rattle.records.specs.declared.Sizes.{Sizes}
use Rattle.records.specs.declared.Pauli.{Pauli}
use Rattle.records.specs.declared.Pauli.TheVariants.{X, Z}
use Rattle.records.specs.Records.{lost, lit, unread}
use Rattle.records.specs.History.{Code, sizes_of, Shot, half}
use Rattle.records.specs.Lists.{Lists, Six, marks, HeldShot}
use Rattle.records.proofs.Range.{InRange, LongLists, LongHalf}
use Rattle.decoding.specs.Decoding.{readings_of, given_by, given_of, shown_of, report_in, BothEnough, Obeying, Reports}

----------------------------------------------------------------------
-- Both decoded

module _ (z : Sizes) (budget limit : ℕ) (l : Lists) (readings : List ℕ) (told : readings ≡ readings_of l.shot) (work work' work'' : List ℕ) (x zed x' zed' : HalfLists)
    (r s : Option HalfReport) (a b : HalfReport) (by : Decodes (given_by X z l readings budget limit) work work' x x' r) (then : Decodes (given_by Z z l readings budget limit) work' work'' zed zed' s) where
  d : Decodes (given_of X z l budget limit) work work' x x' r
  d = subst (λ (k : List ℕ). Decodes (given_by X z l k budget limit) work work' x x' r) told by

  f : Decodes (given_of Z z l budget limit) work' work'' zed zed' s
  f = subst (λ (k : List ℕ). Decodes (given_by Z z l k budget limit) work' work'' zed zed' s) told then

  pub both_decoded : a ≡ report_in r → b ≡ report_in s
      → Reports z budget limit l work work'' (record { x = x; z = zed }) (record { x = x'; z = zed' }) (record { x = a; z = b })
  both_decoded e g =
      record {
        work_long = f.work_long ∙ d.work_long;
        x_long = d.lengths;
        z_long = f.lengths;
        x_past = d.past;
        z_past = f.past;
        x_refused = λ i. e ∙ ap report_in (d.refused i).0;
        z_refused = λ i. g ∙ ap report_in (f.refused (rw d.work_long i)).0;
        decoded = λ enough m n.
            let u = d.decoded enough.x m in
            let v = f.decoded (rw d.work_long enough.z) n in
            (ap₂ (λ (p q : HalfReport). record { x = p; z = q }) (e ∙ ap report_in u.0) (g ∙ ap report_in v.0), u.1, v.1);
      }

----------------------------------------------------------------------
-- Sizes in range and lists long enough

enough_so : (g : Given) (work : ℕ) (l : HalfLists) → g.n ≤ 1024 → g.count ≤ 512 → g.others ≤ 512 → g.first ≤ 512 → g.other ≤ 512
    → 10240 ≤ work → g.n ≤ length g.lost → g.first + g.count ≤ length g.lit → LongHalf g.n l → enough_in? g work l ≡ true
unfolding enough_in?
enough_so g work l n count others first other long on lights three =
    and_in (and_in (and_in (and_in (and_in (and_in (and_in (and_in (and_in (and_in
    (le-leb _ _ n) (le-leb _ _ count)) (le-leb _ _ others)) (le-leb _ _ first)) (le-leb _ _ other))
    (le-leb _ _ long)) (le-leb _ _ on)) (le-leb _ _ lights))
    (le-leb _ _ three.marks)) (le-leb _ _ three.forms)) (le-leb _ _ three.correction)

-- A part up to the end.
pub part_rest : (a : ℕ) (l : List ℕ) → take (length l - a) (drop a l) ≡ drop a l
part_rest a l = take_all (length l - a) (drop a l) (omega (arith, length-drop a l))

readings_long : (shot : List ℕ) → 2048 ≤ length shot → 1024 ≤ length (readings_of shot)
unfolding readings_of
readings_long shot h = omega (arith, length-drop 1024 shot)

pub both_enough : (z : Sizes) (budget limit : ℕ) (l : Lists) (window work : ℕ) (six : Six) → InRange z.n z.x z.z → LongLists l window work
    → LongHalf z.n six.x → LongHalf z.n six.z → BothEnough z budget limit l work six
both_enough z budget limit l window work six m o x_long z_long =
    let rows = readings_long l.shot o.shot in
    let on : z.n ≤ length l.shot = omega (arith, m.qubits, o.shot) in
    record {
      x = enough_so (given_of X z l budget limit) work six.x m.qubits m.zs m.xs m.xs (omega arith) o.work on (omega (arith, m.xs, m.zs)) x_long;
      z = enough_so (given_of Z z l budget limit) work six.z m.qubits m.xs m.zs (omega arith) m.xs o.work on (omega (arith, m.xs)) z_long;
    }

----------------------------------------------------------------------
-- What the lists hold of a half

same_half : (n : ℕ) {rows rows' others others' : List Row} {f f' g g' u u' : ℕ → Bool} → rows ≡ rows' → others ≡ others' → f ≡ f' → g ≡ g' → u ≡ u'
    → ◌≡◌ {A = Half} (record { size = n; rows = rows; others = others; lost = f; lit = g; unread = u }) (record { size = n; rows = rows'; others = others'; lost = f'; lit = g'; unread = u' })
same_half n a b d e i = rw (a, b, d, e, i)

listed_marks : (n : ℕ) (l : List ℕ) → listed n l ≡ marks 1 n 0 l
unfolding listed
listed_marks n l = fun_ext (λ i. ap (λ (k : ℕ). ltb i n && eqb (get_or l k 0) 1) (sym (zero-add i)))

-- A row's element is its reading.
readings_marks : (e count first : ℕ) (shot : List ℕ) → (λ i. ltb i count && eqb (get_or (readings_of shot) (first + i) 0) e) ≡ marks e count (1024 + first) shot
unfolding readings_of
readings_marks e count first shot =
    fun_ext (λ i. ap (λ (k : ℕ). ltb i count && eqb k e) (get_or-drop 1024 shot (first + i) 0 ∙ ap (λ (k : ℕ). get_or shot k 0) (sym (add_assoc 1024 first i))))

-- Rows in the lists obey where those that they hold do.
rows_obey : (n : ℕ) {c : RowLists} {other others : ℕ} {own rest : List Row} → rows_from c.flat c.ends c.first c.count ≡ own → rows_from c.flat c.ends other others ≡ rest
    → All (Ascending n) own → All (Ascending n) rest → Commute own rest → (0 < c.count → (q : ℕ) → q < n → number_on c.ends q ≤ 14 → ListedIn c q)
    → RowsObey n c other others
rows_obey n a b d e even on = record { own = record { ascending = rw a d; listed = on }; other_kind = rw b e; commute = rw (a, b) even }

-- The rows of a half among those of the code, on each qubit.
half_listed : (n : ℕ) (rows : List Row) (c : RowLists) → Flat rows c.flat c.ends → Listed n rows c.ends → c.first + c.count ≤ length rows
    → 0 < c.count → (q : ℕ) → q < n → number_on c.ends q ≤ 14 → ListedIn c q
half_listed n rows c f on within some q h few =
    let w = on (omega arith) q h few in
    record {
      once = w.once;
      are = λ i m. w.are (c.first + i) (omega arith) ∙ ap (λ (r : Row). has r q) (sym (f.held (c.first + i) (omega arith)).is);
    }

-- The halves of a code and shot that lists hold.
module _ (c : Code) (s : Shot) (l : Lists) (f : Flat (c.xs ++ c.zs) l.flat l.ends) (v : HeldShot c s l.shot) (budget limit : ℕ) where
  x_rows : rows_from l.flat l.ends 0 (length c.xs) ≡ c.xs
  x_rows = rows_first c.xs c.zs l.flat l.ends f

  z_rows : rows_from l.flat l.ends (length c.xs) (length c.zs) ≡ c.zs
  z_rows = rows_second c.xs c.zs l.flat l.ends f

  pub shown_held : (p : Pauli) → shown_of (given_of p (sizes_of c) l budget limit) ≡ outcome (half p c s) budget limit
  shown_held X =
      ap (λ (h : Half). outcome h budget limit) (same_half c.n z_rows x_rows (listed_marks c.n l.shot ∙ sym (v.sets lost))
      (readings_marks 1 (length c.zs) (length c.xs) l.shot ∙ sym (v.sets (lit Z)))
      (readings_marks 2 (length c.zs) (length c.xs) l.shot ∙ sym (v.sets (unread Z))))
  shown_held Z =
      ap (λ (h : Half). outcome h budget limit) (same_half c.n x_rows z_rows (listed_marks c.n l.shot ∙ sym (v.sets lost))
      (readings_marks 1 (length c.xs) 0 l.shot ∙ sym (v.sets (lit X)))
      (readings_marks 2 (length c.xs) 0 l.shot ∙ sym (v.sets (unread X))))

  pub obeying : (p : Pauli) → All (Ascending c.n) c.xs → All (Ascending c.n) c.zs → commute? c.zs c.xs ≡ true → Listed c.n (c.xs ++ c.zs) l.ends
      → Obeying (given_of p (sizes_of c) l budget limit)
  obeying X xs zs even on =
      rows_obey c.n z_rows x_rows zs xs ((commute_test c.zs c.xs).1 even)
      (half_listed c.n (c.xs ++ c.zs) _ f on (omega (arith, length-append c.xs c.zs)))
  obeying Z xs zs even on =
      rows_obey c.n x_rows z_rows xs zs ((commute_symmetric c.n c.xs c.zs xs zs).0 ((commute_test c.zs c.xs).1 even))
      (half_listed c.n (c.xs ++ c.zs) _ f on (omega (arith, length-append c.xs c.zs)))
