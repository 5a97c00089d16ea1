-- What each way through `take_row` leaves, for rows of either kind. Assumes nothing.
use mathlib.Core.Path.{◌≡◌, refl, sym, ap, ◌∙◌, subst}
use mathlib.Core.Bool.{Bool, true, false, ◌&&◌}
use mathlib.Core.Logic.{◌⊎◌, inl, inr}
use mathlib.Core.Option.{none}
use mathlib.Core.List.{List, [], ◌∷◌}
use Prim.Native.Nat.{ℕ, ◌+◌, ◌≤◌, ◌<◌}
use native.Mathlib.Omega.{arith}
use borrow.Author.Tests.{lt-ltb, le-ltb, ltb-true, ltb-false, le-leb, lt-leb, eq-eqb, ne_eqb, eqb-true, eqb-false}
use lib.Dec.{eqb, ltb, leb}
use lib.ListN.{length, length-append}
use Rattle.binary.specs.Meaning.{Row}
use Rattle.binary.proofs.Bits.{bit, never, iff_eq, and_out}
use Rattle.code.specs.Push.{Pushed}
use Rattle.code.specs.Tests.{ascending?, Ascending}
use Rattle.code.proofs.Push.{push_lengths}
use Rattle.incidence.specs.Incidence.{noted}
use Rattle.incidence.proofs.Noting.{noted_long}
use Rattle.records.specs.declared.Sizes.{Sizes}
use Rattle.records.specs.declared.State.{State}
use Rattle.records.specs.declared.Refusal.{Refusal}
use Rattle.records.specs.declared.Refusal.TheVariants.{Place, Clash, Short}
use Rattle.records.specs.declared.Answer.TheVariants.{Refused}
use Rattle.records.specs.declared.Reply.{Reply}
use Rattle.records.specs.declared.Pauli.{Pauli}
use Rattle.records.specs.declared.Pauli.TheVariants.{X, Z}
use Rattle.records.specs.Records.{row}
use Rattle.records.specs.History.{History, empty, loading, ready, add_row}
use Rattle.records.specs.Table.{in_range, awaited, clashes, refusal}
use Rattle.records.specs.Lists.{Lists, held, Loads, Represents}
use Rattle.records.specs.Steps.{Answered, Does}
use Rattle.loading.specs.Loading.{loads?, in_turn, awaits?, clashing, progress_of, RowTaken}
use Rattle.records.specs.States.{saying}
use Rattle.records.proofs.Answers.{answered, answered_refused, says_refused, says_nothing}
use Rattle.records.proofs.Range.{InRange, range_out}
use Rattle.loading.proofs.Grown.{not_refused, progress_reports, Grown, xs_with, zs_with, added, clash_told, row_fits, grown_row, grown_answer, grown_holds}

----------------------------------------------------------------------
-- The row awaited

turn_few : (p : Pauli) (s : Sizes) (rows : ℕ) → in_turn p s rows ≡ true → rows < s.x + s.z
turn_few X s rows t = omega (arith, ltb-true rows s.x t)
turn_few Z s rows t = ltb-true rows (s.x + s.z) (and_out (leb s.x rows) (ltb rows (s.x + s.z)) t).1

module _ (st : State) where
  pub awaits_phase : (p : Pauli) → loads? st.phase ≡ false → false ≡ awaits? p st
  unfolding awaits?
  awaits_phase p e = rw e

  module _ (e : loads? st.phase ≡ true) where
    module _ (r : in_range st.sizes.n st.sizes.x st.sizes.z ≡ true) where
      pub awaits_turn : (p : Pauli) → in_turn p st.sizes st.rows ≡ awaits? p st
      unfolding awaits?
      awaits_turn p = rw (e, r)

  -- The count stays in range, in an altered state too.
  pub awaits_few : (p : Pauli) → awaits? p st ≡ true → (st.rows < st.sizes.x + st.sizes.z) × InRange st.sizes.n st.sizes.x st.sizes.z
  unfolding awaits?
  awaits_few p t =
      let c = and_out (loads? st.phase && in_range st.sizes.n st.sizes.x st.sizes.z) (in_turn p st.sizes st.rows) t in
      let b = and_out (loads? st.phase) (in_range st.sizes.n st.sizes.x st.sizes.z) c.0 in
      (turn_few p st.sizes st.rows c.1, range_out st.sizes.n st.sizes.x st.sizes.z b.1)

fewer : (a b : ℕ) → a ≤ b → (a ≡ b → ⊥) → a < b
fewer a b h n = omega arith

-- The count of rows tells whose turn it is.
turn_told : (p : Pauli) (s : Sizes) (xs zs : List Row) (rows : ℕ) → rows ≡ length xs + length zs → length xs ≤ s.x
    → (zs ≡ []) ⊎ (length xs ≡ s.x) → in_turn p s rows ≡ awaited p (loading s xs zs)
turn_told X s xs zs rows e few (inl nil) = ap (λ (k : ℕ). ltb k s.x) (omega (arith, ap length nil))
turn_told X s xs zs rows e few (inr full) = rw (le-ltb rows s.x (omega arith), le-ltb (length xs) s.x (omega arith))
turn_told Z s xs zs rows e few first =
    bit (eqb (length xs) s.x) (λ t. full (eqb-true (length xs) s.x t)) (λ t. more (eqb-false (length xs) s.x t) first)
  where
    full : length xs ≡ s.x → in_turn Z s rows ≡ awaited Z (loading s xs zs)
    full f =
        rw (le-leb s.x rows (omega arith), eq-eqb (length xs) s.x f)
        (iff_eq (ltb rows (s.x + s.z)) (ltb (length zs) s.z) (λ t. lt-ltb (length zs) s.z (omega (arith, ltb-true rows (s.x + s.z) t)))
        (λ t. lt-ltb rows (s.x + s.z) (omega (arith, ltb-true (length zs) s.z t))))

    more : (length xs ≡ s.x → ⊥) → (zs ≡ []) ⊎ (length xs ≡ s.x) → in_turn Z s rows ≡ awaited Z (loading s xs zs)
    more n (inl nil) = rw (ne_eqb (length xs) s.x n, lt-leb s.x rows (omega (arith, ap length nil, fewer (length xs) s.x few n)))
    more n (inr f) = absurd (n f)

pub awaits_told : (p : Pauli) (st : State) (l : Lists) (a : History) → Represents a st l → awaits? p st ≡ awaited p a
awaits_told p st l empty h = sym (awaits_phase st p (rw h)) ∙ none_awaited p
  where
    none_awaited : (p : Pauli) → false ≡ awaited p empty
    none_awaited X = refl
    none_awaited Z = refl
awaits_told p st l (loading s xs zs) h =
    sym (awaits_turn st (rw h.phase) (rw h.sizes h.range) p)
    ∙ rw h.sizes (turn_told p s xs zs st.rows h.rows h.x_few h.x_first)
awaits_told p st l (ready c s) h = sym (awaits_phase st p (rw h.phase)) ∙ none_awaited p
  where
    none_awaited : (p : Pauli) → false ≡ awaited p (ready c s)
    none_awaited X = refl
    none_awaited Z = refl

-- A row is awaited only while a code is loading.
loading_only : (p : Pauli) (st : State) (l : Lists) (G : History → Type 0) → awaits? p st ≡ true
    → ((xs zs : List Row) → Loads st.sizes xs zs st l → awaited p (loading st.sizes xs zs) ≡ true → G (loading st.sizes xs zs))
    → (a : History) → Represents a st l → G a
loading_only X st l G t f empty h = never t (awaits_told X st l empty h)
loading_only Z st l G t f empty h = never t (awaits_told Z st l empty h)
loading_only p st l G t f (loading s xs zs) h =
    let own = subst (λ (s : Sizes). Loads s xs zs st l) (sym h.sizes) h in
    subst (λ (s : Sizes). G (loading s xs zs)) h.sizes (f xs zs own (sym (awaits_told p st l (loading st.sizes xs zs) own) ∙ t))
loading_only X st l G t f (ready c s) h = never t (awaits_told X st l (ready c s) h)
loading_only Z st l G t f (ready c s) h = never t (awaits_told Z st l (ready c s) h)

----------------------------------------------------------------------
-- The refusals that read no list

module _ (p : Pauli) (st : State) (l : Lists) (q : Row) (short : Bool) (six : ℕ → Bool) where
  pub row_place : (r : Reply) → awaits? p st ≡ false → r ≡ saying Place false st → Does short six (row p q) st l l r
  unfolding Does refusal
  row_place r e is a h = answered_refused short six (row p q) a l Place st r (rw (sym (awaits_told p st l a h) ∙ e)) h is

  pub row_wrong : (r : Reply) → awaits? p st ≡ true → ascending? st.sizes.n q ≡ false → r ≡ saying Refusal.Row false st → Does short six (row p q) st l l r
  unfolding Does refusal
  row_wrong r t e is =
      loading_only p st l (λ a. Answered short six (row p q) a l l r) t
      (λ xs zs h w. answered_refused short six (row p q) (loading st.sizes xs zs) l Refusal.Row st r (rw (w, e)) h is)

  pub row_short : (r : Reply) → awaits? p st ≡ true → ascending? st.sizes.n q ≡ true → short ≡ true → r ≡ saying Short false st
      → Does short six (row p q) st l l r
  unfolding Does refusal
  row_short r t e s is =
      loading_only p st l (λ a. Answered short six (row p q) a l l r) t
      (λ xs zs h w. answered_refused short six (row p q) (loading st.sizes xs zs) l Short st r (rw (w, e, s)) h is)

----------------------------------------------------------------------
-- The last row that clashes, and a row that is taken

count_with : (p : Pauli) (q : Row) (xs zs : List Row) → length (xs_with p q xs) + length (zs_with p q zs) ≡ length xs + length zs + 1
count_with X q xs zs = omega (arith, length-append xs (q ∷ []))
count_with Z q xs zs = omega (arith, length-append zs (q ∷ []))

module _ (p : Pauli) (st : State) (flat ends shot : List ℕ) (q : Row) (six : ℕ → Bool) where
  abbrev l : Lists
  l = held flat ends shot

  abbrev s : Sizes
  s = st.sizes

  abbrev flag : Bool
  flag = clashing p st.clash flat ends s.x q

  -- With the last row in, the flag tells whether rows clash; before it, none is told.
  clashes_told : (xs zs : List Row) → Loads s xs zs st l → awaited p (loading s xs zs) ≡ true → Ascending s.n q
      → clashes (add_row p q (loading s xs zs)) ≡ (eqb (st.rows + 1) (s.x + s.z) && flag)
  clashes_told xs zs h t asc =
      ap clashes (added p q s xs zs)
      ∙ bit (eqb (st.rows + 1) (s.x + s.z))
      (λ e. rw (e, eq-eqb count (s.x + s.z) (same ∙ eqb-true (st.rows + 1) (s.x + s.z) e)) (sym (clash_told st xs zs flat ends shot h q p t asc)))
      (λ e. rw (e, ne_eqb count (s.x + s.z) (λ k. eqb-false (st.rows + 1) (s.x + s.z) e (sym same ∙ k))))
    where
      count : ℕ
      count = length (xs_with p q xs) + length (zs_with p q zs)

      same : count ≡ st.rows + 1
      same = omega (arith, count_with p q xs zs, h.rows)

  module _ (t : awaits? p st ≡ true) (asc : Ascending s.n q) (clash : Bool) (told : clash ≡ flag) where
    pub row_clash : (r : Reply) → (eqb (st.rows + 1) (s.x + s.z) && clash) ≡ true → r ≡ saying Clash false st → Does false six (row p q) st l l r
    unfolding Does refusal
    row_clash r k is =
        loading_only p st l (λ a. Answered false six (row p q) a l l r) t
        (λ xs zs h w. answered_refused false six (row p q) (loading s xs zs) l Clash st r (rw (w, asc, clashes_told xs zs h w asc, ← told, k)) h is)

    pub row_added : (flat' mid ends' : List ℕ) (done : Bool) (r : Reply) → length q ≤ 16 → 16384 ≤ length flat → 16384 ≤ length ends
        → (eqb (st.rows + 1) (s.x + s.z) && clash) ≡ false → Pushed flat ends st.rows q done flat' mid → ends' ≡ noted s.n st.rows q mid → r ≡ progress_of s (st.rows + 1) clash st.reports
        → Does false six (row p q) st l (held flat' ends' shot) r
    unfolding Does refusal
    row_added flat' mid ends' done r w long wide k push put e =
        loading_only p st l (λ a. Answered false six (row p q) a l new r) t taken
      where
        new : Lists
        new = held flat' ends' shot

        taken : (xs zs : List Row) → Loads s xs zs st l → awaited p (loading s xs zs) ≡ true
            → Answered false six (row p q) (loading s xs zs) l new r
        taken xs zs h a =
            let d : done ≡ true = push.told ∙ row_fits st xs zs flat ends shot h q w long wide in
            let g = subst (λ (b : Bool). Grown s xs' zs' (st.rows + 1) b new) (sym told) (grown_row st xs zs flat ends shot h q flat' mid ends' w wide asc done push d put p a) in
            let commutes : ltb (st.rows + 1) (s.x + s.z) ≡ false → clash ≡ false = λ b. rw (last b) at k in
            answered false six (row p q) (loading s xs zs) l new r none (rw (a, asc, clashes_told xs zs h a asc, ← told, k))
            (rw (added p q s xs zs) (grown_answer s xs' zs' (st.rows + 1) clash new g r st.reports commutes e))
            (rw (added p q s xs zs) (grown_holds s xs' zs' (st.rows + 1) clash new g r st.reports commutes e))
            (record { flat = rw (d, h.rows) at push.row; ends = rw (d, h.rows) at (put ∙ ap (noted s.n st.rows q) push.end); shot = refl })
          where
            xs' : List Row
            xs' = xs_with p q xs

            zs' : List Row
            zs' = zs_with p q zs

            last : ltb (st.rows + 1) (s.x + s.z) ≡ false → eqb (st.rows + 1) (s.x + s.z) ≡ true
            last b = eq-eqb (st.rows + 1) (s.x + s.z) (omega (arith, ltb-false (st.rows + 1) (s.x + s.z) b, h.rows, h.some_left))

----------------------------------------------------------------------
-- What `add_row` and `take_row` promise

module _ (p : Pauli) (st : State) (flat ends : List ℕ) (q : Row) (r : Reply) where
  pub unwritten : (short : Bool) (n : Refusal) → r ≡ saying n false st → ((six : ℕ → Bool) (l : Lists) → Does short six (row p q) st l l r)
      → RowTaken p st flat ends q short r flat ends
  unwritten short n is f =
      record {
        flat_long = refl;
        ends_long = refl;
        refused = λ n e. (refl, refl);
        says = says_refused (row p q) st r n is;
        does = λ six shot w long. f six (held flat ends shot);
      }

  pub not_short : (flat' ends' : List ℕ) (short : Bool) → short ≡ false → RowTaken p st flat ends q false r flat' ends'
      → RowTaken p st flat ends q short r flat' ends'
  not_short flat' ends' short e t = rw e t

  module _ (t : awaits? p st ≡ true) (asc : Ascending st.sizes.n q) (clash : Bool) (told : clash ≡ clashing p st.clash flat ends st.sizes.x q) (k : Bool) (last : k ≡ (eqb (st.rows + 1) (st.sizes.x + st.sizes.z) && clash)) where
    pub add_clash : k ≡ true → r ≡ saying Clash false st → RowTaken p st flat ends q false r flat ends
    add_clash e is =
        record {
          flat_long = refl;
          ends_long = refl;
          refused = λ n e. (refl, refl);
          says = says_refused (row p q) st r Clash is;
          does = λ six shot w long. row_clash p st flat ends shot q six t asc clash told r (sym last ∙ e) is;
        }

    pub add_taken : (flat' mid ends' : List ℕ) (done : Bool) → k ≡ false → Pushed flat ends st.rows q done flat' mid → ends' ≡ noted st.sizes.n st.rows q mid
        → r ≡ progress_of st.sizes (st.rows + 1) clash st.reports → RowTaken p st flat ends q false r flat' ends'
    add_taken flat' mid ends' done e push put is =
        let long = push_lengths flat ends flat' mid st.rows q done push in
        record {
          flat_long = long.0;
          ends_long = ap length put ∙ noted_long st.sizes.n st.rows mid q ∙ long.1;
          refused = λ n i. absurd (taken n i);
          says = says_nothing (row p q) st r refl taken (ap (λ (x : Reply). x.state.reports) is ∙ progress_reports st.sizes (st.rows + 1) clash st.reports);
          does = λ six shot w wide. row_added p st flat ends shot q six t asc clash told flat' mid ends' done r w (wide refl).0 (wide refl).1 (sym last ∙ e) push put is;
        }
      where
        taken : (n : Refusal) → r.answer ≡ Refused n → ⊥
        taken n i = not_refused st.sizes (st.rows + 1) clash st.reports n (sym (ap (λ (x : Reply). x.answer) is) ∙ i)
