-- The rows as records are carried out to the last. Assumes nothing.
use mathlib.Core.Path.{◌≡◌, sym, subst}
use mathlib.Core.Bool.{Bool, true, false}
use mathlib.Core.Option.{none}
use mathlib.Core.List.{List, [], ◌∷◌, ◌++◌, map, append_assoc, append-nil}
use Prim.Native.Nat.{ℕ, suc, ◌+◌, ◌<◌}
use native.Mathlib.Omega.{arith}
use lib.ListN.{length, length-append}
use borrow.Author.Tests.{lt-ltb, eq-eqb, ne_eqb}
use Rattle.binary.specs.Meaning.{Row, All, commute?}
use Rattle.code.specs.Tests.{Ascending}
use Rattle.records.specs.declared.Sizes.{Sizes}
use Rattle.records.specs.declared.Pauli.TheVariants.{X, Z}
use Rattle.records.specs.Records.{Record, size, row}
use Rattle.records.specs.History.{History, loading, ready, empty_shot, loaded}
use Rattle.records.specs.Table.{in_range, refusal}
use Rattle.bicycle_codes.specs.Laws.{CarriedOut}

-- One row more, not the last: the code goes on loading.
module _ (s : Sizes) where
  goes_on : (xs zs : List Row) → length xs + length zs < s.x + s.z → loaded s xs zs ≡ loading s xs zs
  goes_on xs zs h = rw (ne_eqb (length xs + length zs) (s.x + s.z) (λ e. omega arith))

  ends : (xs zs : List Row) → length xs + length zs ≡ s.x + s.z → loaded s xs zs ≡ ready (record { n = s.n; xs = xs; zs = zs }) empty_shot
  ends xs zs h = rw (eq-eqb (length xs + length zs) (s.x + s.z) h)

  -- An X row that is awaited, with rows to come.
  x_taken : (xs : List Row) (r : Row) → Ascending s.n r → length xs < s.x → 0 < s.z → (six : ℕ → Bool) → refusal false six (row X r) (loading s xs []) ≡ none
  unfolding refusal
  x_taken xs r t h k six =
      let long : length (xs ++ (r ∷ [])) ≡ length xs + 1 = length-append xs (r ∷ []) in
      rw (lt-ltb (length xs) s.x h, t, goes_on (xs ++ (r ∷ [])) [] (omega arith))

  -- A Z row that is awaited, with rows to come.
  z_taken : (xs zs : List Row) (r : Row) → Ascending s.n r → length xs ≡ s.x → suc (length zs) < s.z → (six : ℕ → Bool)
      → refusal false six (row Z r) (loading s xs zs) ≡ none
  unfolding refusal
  z_taken xs zs r t e h six =
      let long : length (zs ++ (r ∷ [])) ≡ length zs + 1 = length-append zs (r ∷ []) in
      rw (eq-eqb (length xs) s.x e, lt-ltb (length zs) s.z (omega arith), t, goes_on xs (zs ++ (r ∷ [])) (omega arith))

  -- The last one, which commutes with all.
  z_last : (xs zs : List Row) (r : Row) → Ascending s.n r → length xs ≡ s.x → suc (length zs) ≡ s.z → commute? (zs ++ (r ∷ [])) xs ≡ true → (six : ℕ → Bool)
      → refusal false six (row Z r) (loading s xs zs) ≡ none
  unfolding refusal
  z_last xs zs r t e h even six =
      let long : length (zs ++ (r ∷ [])) ≡ length zs + 1 = length-append zs (r ∷ []) in
      rw (eq-eqb (length xs) s.x e, lt-ltb (length zs) s.z (omega arith), t, ends xs (zs ++ (r ∷ [])) (omega arith), even)

  -- The X rows, one after the other.
  x_carried : (done rest : List Row) (ws : List Record) (b : History) → All (Ascending s.n) rest → length done + length rest ≡ s.x → 0 < s.z
      → CarriedOut (loading s (done ++ rest) []) ws b → CarriedOut (loading s done []) (map (row X) rest ++ ws) b
  x_carried done [] ws b a h k after = subst (λ (xs : List Row). CarriedOut (loading s xs []) ws b) (append-nil done) after
  x_carried done (r ∷ rest) ws b a h k after =
      let long : length (done ++ (r ∷ [])) ≡ length done + 1 = length-append done (r ∷ []) in (
        x_taken done r a.0 (omega arith) k,
        subst (λ (c : History). CarriedOut c (map (row X) rest ++ ws) b) (sym (goes_on (done ++ (r ∷ [])) [] (omega arith)))
            (x_carried (done ++ (r ∷ [])) rest ws b a.1 (omega arith) k (subst (λ (xs : List Row). CarriedOut (loading s xs []) ws b) (sym (append_assoc done (r ∷ []) rest)) after)),
      )

  -- And the Z rows.
  z_carried : (xs done : List Row) (r : Row) (rest : List Row) → All (Ascending s.n) (r ∷ rest) → length xs ≡ s.x → length done + length (r ∷ rest) ≡ s.z
      → commute? (done ++ (r ∷ rest)) xs ≡ true
      → CarriedOut (loading s xs done) (map (row Z) (r ∷ rest)) (ready (record { n = s.n; xs = xs; zs = done ++ (r ∷ rest) }) empty_shot)
  z_carried xs done r [] a e h even =
      let long : length (done ++ (r ∷ [])) ≡ length done + 1 = length-append done (r ∷ []) in
      (z_last xs done r a.0 e (omega arith) even, ends xs (done ++ (r ∷ [])) (omega arith))
  z_carried xs done r (r' ∷ rest) a e h even =
      let long : length (done ++ (r ∷ [])) ≡ length done + 1 = length-append done (r ∷ []) in
      let join : (done ++ (r ∷ [])) ++ (r' ∷ rest) ≡ done ++ (r ∷ r' ∷ rest) = append_assoc done (r ∷ []) (r' ∷ rest) in (
        z_taken xs done r a.0 e (omega arith),
        subst (λ (c : History). CarriedOut c (map (row Z) (r' ∷ rest)) (ready (record { n = s.n; xs = xs; zs = done ++ (r ∷ r' ∷ rest) }) empty_shot)) (sym (goes_on xs (done ++ (r ∷ [])) (omega arith)))
            (subst (λ (zs : List Row). CarriedOut (loading s xs (done ++ (r ∷ []))) (map (row Z) (r' ∷ rest)) (ready (record { n = s.n; xs = xs; zs = zs }) empty_shot)) join
            (z_carried xs (done ++ (r ∷ [])) r' rest a.1 e (omega arith) (subst (λ (zs : List Row). commute? zs xs ≡ true) (sym join) even))),
      )

  -- All of them, from the code's sizes on.
  pub carried : (a : History) (xs zs : List Row) → in_range s.n s.x s.z ≡ true → length xs ≡ s.x → length zs ≡ s.z → 0 < s.z
      → All (Ascending s.n) xs → All (Ascending s.n) zs → commute? zs xs ≡ true
      → CarriedOut a (size s.n s.x s.z ∷ (map (row X) xs ++ map (row Z) zs)) (ready (record { n = s.n; xs = xs; zs = zs }) empty_shot)
  unfolding refusal
  carried a xs [] range e f h good_xs good_zs even = absurd (omega arith)
  carried a xs (z ∷ zs) range e f h good_xs good_zs even = (
    λ six. rw range,
    subst (λ (c : History). CarriedOut c (map (row X) xs ++ map (row Z) (z ∷ zs)) (ready (record { n = s.n; xs = xs; zs = z ∷ zs }) empty_shot)) (sym (goes_on [] [] (omega arith)))
        (x_carried [] xs (map (row Z) (z ∷ zs)) (ready (record { n = s.n; xs = xs; zs = z ∷ zs }) empty_shot) good_xs (omega arith) h (z_carried xs [] z zs good_zs e (omega arith) even)),
  )
