-- A row taken up in the list of forms is taken up by the machine. Assumes nothing.
use mathlib.Core.Path.{◌≡◌, refl, sym, ap, ◌∙◌, fun_ext}
use mathlib.Core.Bool.{Bool, true, false, ◌&&◌}
use mathlib.Core.Logic.{⊎_elim}
use mathlib.Core.List.{List}
use Prim.Native.Nat.{ℕ, zero, suc, ◌+◌, ◌-◌, ◌*◌, ◌/◌, ◌%◌, ◌^◌, ◌≤◌, ◌<◌}
use native.Mathlib.Omega.{arith}
use borrow.Author.Tests.{lt-ltb, le-ltb, eq-eqb, ne_eqb, eqb-true}
use lib.Dec.{eqb, eqb-suc-zero}
use lib.ListN.{length}
use Rattle.binary.specs.Bits.{◌⊕◌}
use Rattle.binary.specs.Meaning.{Row, Check}
use Rattle.binary.specs.Words.{bit}
use Rattle.binary.proofs.Bits.{&&_false, never, and_out, and_in}
use Rattle.binary.proofs.WordBits.{order, bit_zero, bit_one, bit_past}
use Rattle.std.proofs.Common.{Some, None}
use Rattle.machine.specs.Machine.{Form, newest, without, replace, take_at, take_up, one_less}
use Rattle.machine.specs.Lists.{forms_of}
use Rattle.machine.proofs.Settling.{side_top}
use Rattle.machine.proofs.TakingUp.{newest_is, without_below, without_above}
use Rattle.forms.specs.Forms.{with_live, Topped, TakenAs, TakesUp}
use Rattle.forms.specs.Words.{Words, joined, words_in, side_in}
use Rattle.forms.specs.Changes.{Changed, adding_below, replacing, moved_to}
use Rattle.forms.specs.Sides.{check, top_word, HighestPart, NewestBit}
use Rattle.forms.proofs.FormWords.{words_out, Wide, words_narrow, form_joined, joined_at, side_joined, side_none}
use Rattle.forms.proofs.Joining.{joined_replaced}

----------------------------------------------------------------------
-- How far words reach

forms_in : (n : ℕ) (forms : List ℕ) (q k : ℕ) → q < n → forms_of n forms q k ≡ joined (words_in forms q) k
forms_in n forms q k h = rw (lt-ltb q n h) (form_joined forms q k)

-- The highest word that the live guesses reach.
pub record Reaches (live top : ℕ) : Type 0 where
  pub within : top < 4
  pub covers : (k : ℕ) → k < 256 → k ≤ live → k / 64 ≤ top

pub top_reaches : (live top : ℕ) → top ≡ top_word live → Reaches live top
unfolding top_word
top_reaches live top e = ⊎_elim (λ (l : live < 192). low l (e ∙ rw (lt-ltb live 192 l))) (λ (l : 192 ≤ live). high (e ∙ rw (le-ltb live 192 l))) (order live 192)
  where
    low : live < 192 → top ≡ live / 64 → Reaches live top
    low l d = record { within = omega arith; covers = λ k a b. omega arith }

    high : top ≡ 3 → Reaches live top
    high d = record { within = omega arith; covers = λ k a b. omega arith }

module _ (n live top : ℕ) (forms : List ℕ) (reach : Reaches live top) (topped : Topped n live forms) where
  -- No form has a word above those that the live guesses reach.
  pub top_low : (q : ℕ) → q < n → (t j : ℕ) → top < t → j < 64 → words_in forms q t j ≡ false
  top_low q h t j l b = ⊎_elim (λ (a : t < 4). inside a) (λ (a : 4 ≤ t). words_out forms q t j a) (order t 4)
    where
      inside : t < 4 → words_in forms q t j ≡ false
      inside a =
          ⊎_elim (λ (m : live < 64 * t + j). sym (joined_at (words_in forms q) t j b) ∙ sym (forms_in n forms q (64 * t + j) h) ∙ topped q (64 * t + j) m)
          (λ (m : 64 * t + j ≤ live). let c = reach.covers (64 * t + j) (omega arith) m in absurd (omega arith)) (order live (64 * t + j))

  pub side_low : (c : Check) (t j : ℕ) → top < t → j < 64 → side_in n forms c t j ≡ false
  side_low c t j l b = side_none n forms c t j (rw (ne_eqb t 0 (λ e. absurd (omega arith)))) (λ q h. top_low q h t j l b)

side_narrow : (n : ℕ) (forms : List ℕ) → Wide forms → (c : Check) (t j : ℕ) → 64 ≤ j → side_in n forms c t j ≡ false
side_narrow n forms wide c t j l =
    side_none n forms c t j (rw (ne_eqb j 0 (λ e. absurd (omega arith))) (&&_false (eqb t 0))) (λ q h. words_narrow forms wide q t j l)

module _ (n live top : ℕ) (forms : List ℕ) (reach : Reaches live top) (wide : Wide forms) (topped : Topped n live forms) where
  top_words : (q : ℕ) → q < n → (t j : ℕ) → top < t → words_in forms q t j ≡ false
  top_words q h t j l =
      ⊎_elim (λ (b : j < 64). top_low n live top forms reach topped q h t j l b) (λ (b : 64 ≤ j). words_narrow forms wide q t j b) (order j 64)

  side_past : (c : Check) (t j : ℕ) → top < t → side_in n forms c t j ≡ false
  side_past c t j l =
      ⊎_elim (λ (b : j < 64). side_low n live top forms reach topped c t j l b) (λ (b : 64 ≤ j). side_narrow n forms wide c t j b) (order j 64)

----------------------------------------------------------------------
-- A guess replaced in every form

without_none : (k : ℕ) (f : Form) → ((j : ℕ) → f j ≡ false) → (j : ℕ) → without k f j ≡ false
without_none k f z j =
    ⊎_elim (λ (l : j < k). without_below k j f l ∙ z j) (λ (l : k ≤ j). without_above k j f l ∙ z (suc j)) (order j k)

newest_zero : (m : ℕ) (s : Form) → ((i : ℕ) → s (suc i) ≡ false) → newest m s ≡ 0
newest_zero zero s z = refl
newest_zero (suc m) s z = rw (z m) (newest_zero m s z)

less_one : (n : ℕ) → n - 1 ≡ one_less n
less_one zero = refl
less_one (suc n) = omega arith

module _ (n : ℕ) (row : Row) (lit : Bool) (live top v word : ℕ) (forms : List ℕ) (reach : Reaches live top) (wide : Wide forms)
    (high : HighestPart n forms (check lit row) top v word) (topped : Topped n live forms) where
  s : Words
  s = side_in n forms (check lit row)

  S : Form
  S = joined s

  by_words : take_up (with_live n forms live) (check lit row) ≡ take_at (newest live S) S (with_live n forms live)
  unfolding S s
  by_words = ap (λ (f : Form). take_at (newest live f) f (with_live n forms live)) (side_joined n live forms (check lit row))

  s_top : (t j : ℕ) → v < t → s t j ≡ false
  unfolding s
  s_top t j l =
      ⊎_elim (λ (h : top < t). side_past n live top forms reach wide topped (check lit row) t j h) (λ (h : t ≤ top). high.above t l h j) (order top t)

  -- A side in word 0 alone.
  low_part : v ≡ 0 → S ≡ bit word
  unfolding S s
  low_part z = fun_ext λ k. ⊎_elim (λ (l : k < 64). low k l) (λ (l : 64 ≤ k). far k l) (order k 64)
    where
      low : (k : ℕ) → k < 64 → S k ≡ bit word k
      low k l =
          let a : 64 * v + k ≡ k = omega arith in
          ap S (sym a) ∙ joined_at s v k l ∙ sym (high.is.bits k)

      far : (k : ℕ) → 64 ≤ k → S k ≡ bit word k
      far k l = s_top (k / 64) (k % 64) (omega arith) ∙ sym (high.is.bits k ∙ side_narrow n forms wide (check lit row) v k l)

  took_nothing : word ≡ 0 → TakenAs n forms (take_up (with_live n forms live) (check lit row)) (Some live)
  took_nothing e = rw (by_words, S_is, newest_zero live (bit 0) (λ i. bit_zero (suc i)), bit_zero 0) (refl, refl, topped)
    where
      first : v ≡ 0
      first = ⊎_elim (λ (l : 0 < v). absurd (high.some l e)) (λ (l : v ≤ 0). omega arith) (order 0 v)

      S_is : S ≡ bit 0
      S_is = low_part first ∙ ap bit e

  took_failed : v ≡ 0 → word ≡ 1 → TakenAs n forms (take_up (with_live n forms live) (check lit row)) None
  took_failed z e = rw (by_words, S_is, newest_zero live (bit 1) (λ i. bit_one (suc i) ∙ eqb-suc-zero i), bit_one 0) refl
    where
      S_is : S ≡ bit 1
      S_is = low_part z ∙ ap bit e

  module _ (k : ℕ) (new : NewestBit word k) where
    abbrev guess : ℕ
    guess = 64 * v + k

    S_has : S guess ≡ true
    unfolding S s
    S_has = joined_at s v k new.within ∙ sym (high.is.bits k) ∙ new.has

    S_last : (j : ℕ) → guess < j → S j ≡ false
    unfolding S s
    S_last j l =
        ⊎_elim (λ (h : v < j / 64). s_top (j / 64) (j % 64) h)
        (λ (h : j / 64 ≤ v).
        let e : j / 64 ≡ v = omega arith in
        ap (λ (x : ℕ). s x (j % 64)) e ∙ sym (high.is.bits (j % 64)) ∙ bit_past word (suc k) (j % 64) new.below (omega arith)) (order v (j / 64))

    module _ (more : 0 < guess) where
      S_live : guess ≤ live
      unfolding S s
      S_live =
          ⊎_elim (λ (l : live < guess). never S_has (ap (λ (f : Form). f guess) (sym (side_joined n live forms (check lit row)))
          ∙ side_top (with_live n forms live) (check lit row) guess (λ q. topped q guess l) (omega arith)))
          (λ (l : guess ≤ live). l) (order live guess)

      S_newest : newest live S ≡ suc (guess - 1)
      S_newest =
          let l = S_live in
          let e : suc (guess - 1) ≡ guess = omega arith in
          newest_is live (guess - 1) S (omega arith) (ap S e ∙ S_has) (λ i a b. S_last (suc i) (omega arith))

      replaced_top : (q j : ℕ) → one_less live < j → replace guess S (forms_of n forms q) j ≡ false
      replaced_top q j h =
          let l = S_live in
          let e : live < suc j = omega (arith, less_one live) in
          without_above guess j (λ i. forms_of n forms q i ⊕ (forms_of n forms q guess && S i)) (omega arith)
          ∙ rw (topped q (suc j) e, S_last (suc j) (omega arith)) (&&_false (forms_of n forms q guess))

      module _ (a b forms' : List ℕ) (added : Changed n (adding_below v k v (side_in n forms (check lit row))) forms a) (shut : Changed n (replacing v k (bit word)) a b)
          (moved : Changed n (moved_to v top) b forms') where
        words_then : (q : ℕ) → q < n → joined (words_in forms' q) ≡ replace guess S (joined (words_in forms q))
        unfolding S s
        words_then q h =
            ap joined (moved.done q h ∙ ap (moved_to v top) (shut.done q h ∙ ap (replacing v k (bit word)) (added.done q h)))
            ∙ ap (λ (f : Form). joined (moved_to v top (replacing v k f (adding_below v k v s (words_in forms q))))) (fun_ext high.is.bits)
            ∙ joined_replaced v k top s (words_in forms q) new.within high.within (words_narrow forms wide q)
            (side_narrow n forms wide (check lit row)) (top_words n live top forms reach wide topped q h) s_top

        forms_then : forms_of n forms' ≡ (λ q. replace guess S (forms_of n forms q))
        forms_then = fun_ext λ q. fun_ext λ j. ⊎_elim (within q j) (past q j) (order q n)
          where
            within : (q j : ℕ) → q < n → forms_of n forms' q j ≡ replace guess S (forms_of n forms q) j
            within q j h =
                forms_in n forms' q j h ∙ ap (λ (f : Form). f j) (words_then q h)
                ∙ ap (λ (f : Form). replace guess S f j) (sym (fun_ext (λ i. forms_in n forms q i h)))

            past : (q j : ℕ) → n ≤ q → forms_of n forms' q j ≡ replace guess S (forms_of n forms q) j
            past q j h =
                rw (le-ltb q n h) (sym (without_none guess (λ i. false ⊕ (false && S i)) (λ i. refl) j))

        took_guess : TakenAs n forms' (take_up (with_live n forms live) (check lit row)) (Some (live - 1))
        took_guess =
            let e : suc (guess - 1) ≡ guess = omega arith in
            let f : forms_of n forms' ≡ (λ q. replace (suc (guess - 1)) S (forms_of n forms q)) = forms_then ∙ ap {B = ℕ → Form} (λ (x : ℕ) (q : ℕ). replace x S (forms_of n forms q)) (sym e) in
            rw (by_words, S_newest) (ap Some (less_one live), f, λ q j h. ap (λ (g : ℕ → Form). g q j) forms_then ∙ replaced_top q j h)

----------------------------------------------------------------------
-- For every list and every forms

module _ (n : ℕ) (row : Row) (lit : Bool) (live : ℕ) (forms : List ℕ) where
  pub takes_none : length forms / 4 < n → TakesUp n (check lit row) live None forms forms
  takes_none h = record { long = refl; rest = λ q i. refl; taken = λ l top. absurd (omega arith); refused = λ l. (refl, refl) }

  module _ (top v word : ℕ) (is-top : top ≡ top_word live) (room : n ≤ length forms / 4) (wide : Wide forms) (high : HighestPart n forms (check lit row) top v word) where
    reach : Reaches live top
    reach = top_reaches live top is-top

    pub takes_nothing : word ≡ 0 → TakesUp n (check lit row) live (Some live) forms forms
    takes_nothing e = record { long = refl; rest = λ q i. refl; taken = λ l topped. took_nothing n row lit live top v word forms reach wide high topped e; refused = λ l. absurd (omega arith) }

    pub takes_failed : (eqb v 0 && eqb word 1) ≡ true → TakesUp n (check lit row) live None forms forms
    takes_failed t =
        let e = and_out (eqb v 0) (eqb word 1) t in
        record {
          long = refl;
          rest = λ q i. refl;
          taken = λ l topped. took_failed n row lit live top v word forms reach wide high topped (eqb-true v 0 e.0) (eqb-true word 1 e.1);
          refused = λ l. absurd (omega arith);
        }

    -- A side that is neither 0 nor 1 has a guess.
    more_than : (k : ℕ) → NewestBit word k → (word ≡ 0 → ⊥) → (eqb v 0 && eqb word 1) ≡ false → 0 < 64 * v + k
    more_than k new some not-one =
        ⊎_elim (λ (l : 0 < 64 * v + k). l) (λ (l : 64 * v + k ≤ 0). absurd (one (omega arith) (omega arith) new.below)) (order 0 (64 * v + k))
      where
        one : {j : ℕ} → v ≡ 0 → j ≡ 0 → word < 2 ^ suc j → ⊥
        one z e h =
            let l : word < 2 = rw e at h in
            ⊎_elim (λ (m : 0 < word). never (and_in (eq-eqb v 0 z) (eq-eqb word 1 (omega arith))) not-one) (λ (m : word ≤ 0). some (omega arith)) (order 0 word)

    module _ (k : ℕ) (new : NewestBit word k) (some : word ≡ 0 → ⊥) (not-one : (eqb v 0 && eqb word 1) ≡ false) where
      pub takes_dead : live ≡ 0 → TakesUp n (check lit row) live None forms forms
      takes_dead e =
          record {
            long = refl;
            rest = λ q i. refl;
            taken = λ l topped. let m = more_than k new some not-one in let g = S_live n row lit live top v word forms reach wide high topped k new m in absurd (omega arith);
            refused = λ l. absurd (omega arith);
          }

      pub takes_guess : (a b forms' : List ℕ) → Changed n (adding_below v k v (side_in n forms (check lit row))) forms a → Changed n (replacing v k (bit word)) a b
          → Changed n (moved_to v top) b forms' → TakesUp n (check lit row) live (Some (live - 1)) forms forms'
      takes_guess a b forms' added shut moved =
          record {
            long = moved.long ∙ shut.long ∙ added.long;
            rest = λ i h. moved.rest i h ∙ shut.rest i h ∙ added.rest i h;
            taken = λ l topped. took_guess n row lit live top v word forms reach wide high topped k new (more_than k new some not-one) a b forms' added shut moved;
            refused = λ l. absurd (omega arith);
          }
