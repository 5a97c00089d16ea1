-- A code that grows row by row. Assumes nothing.
--   Grown                      the lists hold the rows that came so far
--   grown-answer, grown-holds  the reply to sizes or a row that are taken is the table's
--   grown_row                  one row more, of either kind
use mathlib.Core.Path.{◌≡◌, refl, sym, ap, ◌∙◌, subst}
use mathlib.Core.Bool.{Bool, true, false, not, ◌&&◌, ◌||◌, cond}
use mathlib.Core.Logic.{◌⊎◌, inl, inr, ⊎_elim}
use mathlib.Core.List.{List, [], ◌∷◌, ◌++◌, append-nil, append_assoc}
use Prim.Native.Nat.{ℕ, ◌+◌, ◌≤◌, ◌<◌}
use native.Mathlib.Omega.{arith}
use borrow.Author.Tests.{ltb-true, ltb-false, eqb-true, eq-eqb, ne_eqb, not-false}
use lib.Dec.{eqb, ltb}
use lib.ListN.{length, get_or, length-append}
use lib.Seq.{get_or-set_other}
use Rattle.binary.specs.Meaning.{Row, All, commute?}
use Rattle.binary.proofs.Bits.{bit, and_out}
use Rattle.code.specs.Lists.{rows_between, Flat}
use Rattle.code.specs.Push.{room?, Pushed}
use Rattle.code.specs.Tests.{Ascending}
use Rattle.commuting.specs.Even.{even_with?}
use Rattle.code.proofs.Flat.{flat_none}
use Rattle.code.proofs.Push.{push_lengths, flat_push, flat_kept, flat_room}
use Rattle.incidence.specs.Incidence.{noted, Listed}
use Rattle.incidence.proofs.Noting.{noted_long}
use Rattle.incidence.proofs.Listing.{noted_below, listed_next, listed_kept}
use Rattle.commuting.proofs.Sharing.{commute_told}
use Rattle.records.specs.declared.Sizes.{Sizes}
use Rattle.records.specs.declared.Phase.TheVariants.{Loading, Ready}
use Rattle.records.specs.declared.State.{State}
use Rattle.records.specs.declared.Refusal.{Refusal}
use Rattle.records.specs.declared.Answer.TheVariants.{Refused, Taken, Complete}
use Rattle.records.specs.declared.Reply.{Reply}
use Rattle.records.specs.declared.Pauli.{Pauli}
use Rattle.records.specs.declared.Pauli.TheVariants.{X, Z}
use Rattle.records.specs.Records.{size}
use Rattle.records.specs.History.{Code, loading, ready, empty_shot, loaded, add_row}
use Rattle.records.specs.Table.{in_range, awaited}
use Rattle.records.specs.Lists.{Lists, held, GoodRows, Loads, Holds, Represents}
use Rattle.records.specs.Window.{on_reports, one_more}
use Rattle.records.specs.Promise.{completed}
use Rattle.loading.specs.Loading.{clashing, counted_of, progress_of}
use Rattle.records.proofs.HeldStates.{none_among}
use Rattle.records.proofs.Range.{range_out}

-- What `Loads` says beside the state, of a code that may be complete.
pub record Grown (s : Sizes) (xs zs : List Row) (rows : ℕ) (clash : Bool) (l : Lists) : Type 0 where
  pub range : in_range s.n s.x s.z ≡ true
  pub count : rows ≡ length xs + length zs
  pub few : length xs + length zs ≤ s.x + s.z
  pub x_few : length xs ≤ s.x
  pub x_first : (zs ≡ []) ⊎ (length xs ≡ s.x)
  pub good_xs : GoodRows s.n xs
  pub good_zs : GoodRows s.n zs
  pub flat : Flat (xs ++ zs) l.flat l.ends
  pub on : Listed s.n (xs ++ zs) l.ends
  pub flag : clash ≡ not (commute? zs xs)

pub grown_none : (s : Sizes) (l : Lists) → in_range s.n s.x s.z ≡ true → Grown s [] [] 0 false l
unfolding commute?
grown_none s l e =
    record {
      range = e;
      count = refl;
      few = omega arith;
      x_few = omega arith;
      x_first = inl refl;
      good_xs = record { ascending = tt; weights = tt };
      good_zs = record { ascending = tt; weights = tt };
      flat = flat_none l.flat l.ends;
      on = λ some. absurd (omega arith);
      flag = refl;
    }

----------------------------------------------------------------------
-- The reply

module _ (s : Sizes) (xs zs : List Row) (rows : ℕ) (clash : Bool) (l : Lists) (g : Grown s xs zs rows clash l) where
  -- With every row in, each kind has as many as were announced.
  all_in : s.x + s.z ≤ rows → (length xs ≡ s.x) × (length zs ≡ s.z)
  all_in h =
      ⊎_elim (λ (e : zs ≡ []). let none : length zs ≡ 0 = ap length e in (omega (arith, g.count, g.few, g.x_few), omega (arith, g.count, g.few, g.x_few)))
      (λ (e : length xs ≡ s.x). (e, omega (arith, g.count, g.few)))
      g.x_first

  abbrev code : Code
  code = record { n = s.n; xs = xs; zs = zs }

  is_loading : rows < s.x + s.z → loaded s xs zs ≡ loading s xs zs
  is_loading h = rw (ne_eqb (length xs + length zs) (s.x + s.z) (λ e. omega (arith, g.count)))

  is_ready : s.x + s.z ≤ rows → loaded s xs zs ≡ ready code empty_shot
  is_ready h = rw (eq-eqb (length xs + length zs) (s.x + s.z) (omega (arith, g.count, g.few)))

  module _ (r : Reply) (reports : ℕ) (commutes : (ltb rows (s.x + s.z) ≡ false) → clash ≡ false) (e : r ≡ progress_of s rows clash reports) where
    pub grown_answer : r.answer ≡ completed (loaded s xs zs)
    grown_answer =
        bit (ltb rows (s.x + s.z)) (λ t. rw (e, t, is_loading (ltb-true rows (s.x + s.z) t)))
        (λ t. let sizes = all_in (ltb-false rows (s.x + s.z) t) in rw (e, t, is_ready (ltb-false rows (s.x + s.z) t), sizes.0, sizes.1))

    pub grown_holds : Represents (loaded s xs zs) r.state l
    grown_holds =
        bit (ltb rows (s.x + s.z)) (λ t. rw (e, t, is_loading (ltb-true rows (s.x + s.z) t)) (loads (ltb-true rows (s.x + s.z) t)))
        (λ t. rw (e, t, is_ready (ltb-false rows (s.x + s.z) t)) (holds (ltb-false rows (s.x + s.z) t) (commutes t)))
      where
        loads : rows < s.x + s.z → Loads s xs zs (counted_of Loading s rows clash reports) l
        loads h =
            record {
              phase = refl;
              sizes = refl;
              range = g.range;
              rows = g.count;
              some_left = omega (arith, g.count);
              x_few = g.x_few;
              x_first = g.x_first;
              good_xs = g.good_xs;
              good_zs = g.good_zs;
              flat = g.flat;
              on = g.on;
              clash = g.flag;
            }

        holds : s.x + s.z ≤ rows → clash ≡ false → Holds code empty_shot (counted_of Ready s rows clash reports) l
        holds h q =
            record {
              phase = refl;
              sizes = rw ((all_in h).0, (all_in h).1);
              range = rw ((all_in h).0, (all_in h).1) g.range;
              good_xs = g.good_xs;
              good_zs = g.good_zs;
              commute = not-false (commute? zs xs) (sym g.flag ∙ q);
              flat = g.flat;
              on = g.on;
              spoiled = refl;
              shot = none_among;
            }

----------------------------------------------------------------------
-- One row more

abbrev pub xs_with : Pauli → Row → List Row → List Row
xs_with X q xs = xs ++ (q ∷ [])
xs_with Z q xs = xs

abbrev pub zs_with : Pauli → Row → List Row → List Row
zs_with X q zs = zs
zs_with Z q zs = zs ++ (q ∷ [])

pub added : (p : Pauli) (q : Row) (s : Sizes) (xs zs : List Row) → add_row p q (loading s xs zs) ≡ loaded s (xs_with p q xs) (zs_with p q zs)
added X q s xs zs = refl
added Z q s xs zs = refl

all_both : (P : Row → Type 0) (xs zs : List Row) → All P xs → All P zs → All P (xs ++ zs)
all_both P [] zs a b = b
all_both P (x ∷ xs) zs a b = (a.0, all_both P xs zs a.1 b)

good_last : (n : ℕ) (xs : List Row) (q : Row) → GoodRows n xs → Ascending n q → length q ≤ 16 → GoodRows n (xs ++ (q ∷ []))
good_last n xs q g a w =
    record {
      ascending = all_both (Ascending n) xs (q ∷ []) g.ascending (a, tt);
      weights = all_both (λ r. length r ≤ 16) xs (q ∷ []) g.weights (w, tt);
    }

de_morgan : (a b : Bool) → (not a || not b) ≡ not (a && b)
de_morgan true b = refl
de_morgan false b = refl

-- An X row is awaited only before the first Z row, a Z row only after the last X row.
x_before : (s : Sizes) (xs zs : List Row) → (zs ≡ []) ⊎ (length xs ≡ s.x) → awaited X (loading s xs zs) ≡ true → zs ≡ []
x_before s xs zs (inl e) t = e
x_before s xs zs (inr e) t = absurd (omega (arith, ltb-true (length xs) s.x t))

moved : (xs zs : List Row) (q : Row) → zs ≡ [] → xs ++ zs ++ (q ∷ []) ≡ xs ++ (q ∷ []) ++ zs
moved xs zs q e = rw e (simp append-nil)

x_done : (s : Sizes) (xs zs : List Row) → awaited Z (loading s xs zs) ≡ true → length xs ≡ s.x
x_done s xs zs t = eqb-true (length xs) s.x (and_out (eqb (length xs) s.x) (ltb (length zs) s.z) t).0

module _ (st : State) (xs zs : List Row) (flat ends shot : List ℕ) (h : Loads st.sizes xs zs st (held flat ends shot)) (q : Row) where
  abbrev s : Sizes
  s = st.sizes

  -- The flag with this row tells whether some X and Z rows are odd.
  pub clash_told : (p : Pauli) → awaited p (loading s xs zs) ≡ true → Ascending s.n q
      → clashing p st.clash flat ends s.x q ≡ not (commute? (zs_with p q zs) (xs_with p q xs))
  unfolding commute?
  clash_told X t a = h.clash ∙ rw (x_before s xs zs h.x_first t)
  clash_told Z t a =
      rw (commute_told s.n (range_out s.n s.x s.z h.range).qubits xs zs flat ends h.flat s.x (sym (x_done s xs zs t)) q (even_with? (rows_between flat ends 0 s.x) q) h.good_xs.ascending a refl, h.clash)
      (de_morgan (commute? zs xs) (even_with? (rows_between flat ends 0 s.x) q))

  pub row_fits : length q ≤ 16 → 16384 ≤ length flat → 16384 ≤ length ends → room? flat ends st.rows q ≡ true
  row_fits w long wide =
      let range = range_out s.n s.x s.z h.range in
      flat_room (xs ++ zs) flat ends st.rows q h.flat (h.rows ∙ sym (length-append xs zs))
      (all_both (λ r. length r ≤ 16) xs zs h.good_xs.weights h.good_zs.weights) w
      (omega (arith, length-append xs zs, h.some_left, range.xs, range.zs)) long (omega arith)

  module _ (flat' mid ends' : List ℕ) (w : length q ≤ 16) (wide : 16384 ≤ length ends) (asc : Ascending s.n q) (done : Bool) (push : Pushed flat ends st.rows q done flat' mid) (d : done ≡ true) (put : ends' ≡ noted s.n st.rows q mid) where
    in_place : st.rows ≡ length (xs ++ zs)
    in_place = h.rows ∙ sym (length-append xs zs)

    limits : (s.n ≤ 1024) × (st.rows < 1024)
    limits = let range = range_out s.n s.x s.z h.range in (range.qubits, omega (arith, h.rows, h.some_left, range.xs, range.zs))

    as_long : length mid ≡ length ends
    as_long = (push_lengths flat ends flat' mid st.rows q done push).1

    flat_next : Flat ((xs ++ zs) ++ (q ∷ [])) flat' ends'
    flat_next =
        flat_kept ((xs ++ zs) ++ (q ∷ [])) flat' mid ends' (flat_push (xs ++ zs) flat ends flat' mid st.rows q done h.flat in_place push d)
        (ap length put ∙ noted_long s.n st.rows mid q)
        (λ r l. ap (λ (e : List ℕ). get_or e r 0) put ∙ noted_below s.n st.rows q mid r (omega (arith, l, length-append (xs ++ zs) (q ∷ []), in_place, limits)))

    on_next : Listed s.n ((xs ++ zs) ++ (q ∷ [])) ends'
    on_next =
        rw put (listed_next s.n (xs ++ zs) q st.rows mid limits.0 (omega (arith, as_long)) in_place asc
        (listed_kept s.n (xs ++ zs) ends mid limits.0 wide as_long
        (λ k l. ap (λ (e : List ℕ). get_or e k 0) (rw d at push.end) ∙ get_or-set_other ends st.rows k _ 0 (λ e. omega (arith, limits.1))) h.on))

    pub grown_row : (p : Pauli) → awaited p (loading s xs zs) ≡ true
        → Grown s (xs_with p q xs) (zs_with p q zs) (st.rows + 1) (clashing p st.clash flat ends s.x q) (held flat' ends' shot)
    grown_row X t =
        record {
          range = h.range;
          count = omega (arith, h.rows, length-append xs (q ∷ []));
          few = omega (arith, h.some_left, length-append xs (q ∷ []));
          x_few = omega (arith, ltb-true (length xs) s.x t, length-append xs (q ∷ []));
          x_first = inl none;
          good_xs = good_last s.n xs q h.good_xs asc w;
          good_zs = h.good_zs;
          flat = subst (λ (rows : List Row). Flat rows flat' ends') (moved xs zs q none) flat_next;
          on = subst (λ (rows : List Row). Listed s.n rows ends') (moved xs zs q none) on_next;
          flag = clash_told X t asc;
        }
      where
        none : zs ≡ []
        none = x_before s xs zs h.x_first t
    grown_row Z t =
        record {
          range = h.range;
          count = omega (arith, h.rows, length-append zs (q ∷ []));
          few = omega (arith, h.some_left, length-append zs (q ∷ []));
          x_few = h.x_few;
          x_first = inr (x_done s xs zs t);
          good_xs = h.good_xs;
          good_zs = good_last s.n zs q h.good_zs asc w;
          flat = rw append_assoc at flat_next;
          on = subst (λ (rows : List Row). Listed s.n rows ends') (append_assoc xs zs (q ∷ [])) on_next;
          flag = clash_told Z t asc;
        }

----------------------------------------------------------------------
-- Not refused, and the number of reports

-- Sizes or a row that are taken are not refused.
one_of : (b : Bool) (x y : Reply) (n : Refusal) (s : Sizes) → x.answer ≡ Taken → y.answer ≡ Complete s → (cond b x y).answer ≡ Refused n → ⊥
one_of true x y n s e f i = let z : ◌≡◌ {A = ℕ} 0 1 = cc in omega arith
one_of false x y n s e f i = let z : ◌≡◌ {A = ℕ} 0 1 = cc in omega arith

module _ (s : Sizes) (rows : ℕ) (clash : Bool) (reports : ℕ) where
  pub not_refused : (n : Refusal) → (progress_of s rows clash reports).answer ≡ Refused n → ⊥
  not_refused n = one_of (ltb rows (s.x + s.z)) _ _ n s refl refl

  pub progress_reports : (progress_of s rows clash reports).state.reports ≡ reports
  progress_reports = bit (ltb rows (s.x + s.z)) (λ t. rw t) (λ t. rw t)

  -- Sizes that are taken empty the window.
  pub progress_empties : (n x z m : ℕ) → on_reports (λ m. 0) (λ t. one_more) (size n x z) (progress_of s rows clash reports).answer m ≡ 0
  progress_empties n x z m = bit (ltb rows (s.x + s.z)) (λ t. rw t) (λ t. rw t)
