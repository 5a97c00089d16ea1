-- At every stage that a half comes to, the values of the live guesses give exactly the solutions of the closed rows, each once; and a half
-- ends in none only where nothing satisfies all rows. Assumes nothing.
use mathlib.Core.Path.{◌≡◌, refl, sym, ap, ◌∙◌, fun_ext, subst}
use mathlib.Core.Bool.{Bool, true, false, not, ◌&&◌, cond}
use mathlib.Core.Logic.{inl, inr}
use mathlib.Core.Option.{Option, none, some}
use mathlib.Core.List.{List, [], ◌∷◌, Memᴰ}
use Prim.Native.Nat.{ℕ, suc}
use native.Mathlib.Nat.{not-suc-le-zero}
use lib.Dec.{eqb}
use Rattle.binary.specs.Meaning.{Qubits, Row, Check}
use Rattle.binary.proofs.Bits.{bit, never, &&_false, &&_true, eq_eqb, and_out, and_in, not_in}
use Rattle.machine.specs.Machine.{Forms, blank, State, Stage, on, failed, put, is_open, part, empty?, only, closed?, or_else, dangling, take_up_all, closing, stage, start_mark, start, settle, peel, guess, turn}
use Rattle.machine.proofs.Settling.{Decided, closed_decided, Solution, Invariant, Plus, solution_sub, shut_less, peel_keeps, guess_keeps}
use Rattle.machine.proofs.TakingUp.{Result, Also, result_iff, take_all_keeps}
use Rattle.machine.proofs.Runs.{Rule, turn_keeps}

----------------------------------------------------------------------
-- Closed and dangling rows

empty_out : (l : List ℕ) → empty? l ≡ true → l ≡ []
empty_out [] e = refl
empty_out (q ∷ l) e = never e refl

-- A closed row stays closed.
part_shut : (o : Qubits) (p : ℕ) (r : Row) → part o r ≡ [] → part (put p false o) r ≡ []
part_shut o p [] e = refl
part_shut o p (q ∷ r) e =
    bit (o q) (λ t. let z : part o (q ∷ r) ≡ q ∷ part o r = rw t in cc)
    (λ t. let z : part o r ≡ [] = rw t at e in rw (shut_less o p q t) (part_shut o p r z))

-- A dangling row is closed by its open qubit.
part_last : (o : Qubits) (p : ℕ) (r : Row) → part o r ≡ p ∷ [] → part (put p false o) r ≡ []
part_last o p [] e = refl
part_last o p (q ∷ r) e =
    bit (o q) (λ t. hit (rw t at e))
    (λ t. rw (shut_less o p q t) (part_last o p r (rw t at e)))
  where
    hit : q ∷ part o r ≡ p ∷ [] → part (put p false o) (q ∷ r) ≡ []
    hit i = let a : q ≡ p = cc in let b : part o r ≡ [] = cc in
        subst (λ (j : ℕ). part (put p false o) (j ∷ r) ≡ []) (sym a) (rw (eq_eqb p) (part_shut o p r b))

pub dangling_is : (o : Qubits) (cs : List Check) (d : ℕ × Check) → dangling o cs ≡ some d
    → (part o d.1.row ≡ d.0 ∷ []) × Memᴰ d.1 cs
dangling_is o [] d e = let z : ◌≡◌ {A = Bool} true false = cc in never refl z
dangling_is o (c ∷ cs) d e = look (part o c.row) refl e (dangling_is o cs d)
  where
    look : (l : List ℕ) → part o c.row ≡ l → or_else (only l) c (dangling o cs) ≡ some d
        → (dangling o cs ≡ some d → (part o d.1.row ≡ d.0 ∷ []) × Memᴰ d.1 cs)
        → (part o d.1.row ≡ d.0 ∷ []) × Memᴰ d.1 (c ∷ cs)
    look [] i e' h = ((h e').0, Memᴰ.tail (h e').1)
    look (p ∷ []) i e' h = let z : (p, c) ≡ d = cc in
        subst (λ (x : ℕ × Check). (part o x.1.row ≡ x.0 ∷ []) × Memᴰ x.1 (c ∷ cs)) z (i, Memᴰ.head refl)
    look (p ∷ (q ∷ l)) i e' h = ((h e').0, Memᴰ.tail (h e').1)

pub open_put : (p m : ℕ) (mark : ℕ → ℕ) → eqb m 4 ≡ false → is_open (put p m mark) ≡ put p false (is_open mark)
open_put p m mark e = fun_ext λ q. bit (eqb p q) (λ t. rw (t, e)) (λ t. rw t)

pub start_open : (lost fixed : Bool) → eqb (cond lost (cond fixed 1 4) 0) 4 ≡ (lost && not fixed)
start_open true true = refl
start_open true false = refl
start_open false b = refl

-- With no qubit fixed the lost ones are open.
pub unfixed_open : (lost : Qubits) → is_open (start_mark lost (λ q. false)) ≡ lost
unfixed_open lost = fun_ext λ q. start_open (lost q) false ∙ &&_true (lost q) refl

abbrev pub Closed : List Check → Qubits → Check → Type 0
Closed checks o c = Memᴰ c checks × (closed? o c ≡ true)

----------------------------------------------------------------------
-- Stages

-- The closed rows are taken up, or nothing satisfies all rows.
abbrev pub Good : List Check → Qubits → Qubits → Stage → Type 0
Good checks lost fixed (on st) = Invariant lost fixed (is_open st.mark) (Closed checks (is_open st.mark)) st.forms
Good checks lost fixed (failed st) = (x : Qubits) → Solution lost fixed (λ c. Memᴰ c checks) x → ⊥

module _ (checks : List Check) (lost fixed : Qubits) where
  stage_good : (mark : ℕ → ℕ) (turns : ℕ) (r : Option Forms) → Result lost fixed (is_open mark) (Closed checks (is_open mark)) r
      → Good checks lost fixed (stage mark turns r)
  stage_good mark turns none v = λ x s. v x (solution_sub (λ c i. i.0) s)
  stage_good mark turns (some fs) v = v

  closed_is_decided : (o : Qubits) (c : Check) → closed? o c ≡ true → Decided o c
  closed_is_decided o c e = closed_decided o c (empty_out (part o c.row) e)

  -- R: the rows that are satisfied once p is settled, before the newly closed are taken up.
  settle_good : (st : State) (p m : ℕ) (fs : Forms) (R : Check → Type 0) → eqb m 4 ≡ false
      → ((c : Check) → Closed checks (is_open st.mark) c → R c)
      → ((c : Check) → R c → Closed checks (put p false (is_open st.mark)) c)
      → Invariant lost fixed (put p false (is_open st.mark)) R fs → Good checks lost fixed (settle checks st p m fs)
  settle_good st p m fs R e old new v =
      stage_good (put p m st.mark) (suc st.turns) (take_up_all t checks fs)
      (result_iff lost fixed o' (take_up_all t checks fs) to from
      (take_all_keeps lost fixed o' R fs t checks
      (λ c u. closed_is_decided o' c (and_out (not (closed? o c)) (closed? o' c) u).1) (rw eq v)))
    where
      o : Qubits
      o = is_open st.mark

      o' : Qubits
      o' = is_open (put p m st.mark)

      t : Check → Bool
      t = closing st.mark (put p m st.mark)

      eq : o' ≡ put p false o
      eq = open_put p m st.mark e

      to : (c : Check) → Also R t checks c → Closed checks o' c
      to c (inl r) = rw eq (new c r)
      to c (inr i) = (i.0, (and_out (not (closed? o c)) (closed? o' c) i.1).1)

      from : (c : Check) → Closed checks o' c → Also R t checks c
      from c i = bit (closed? o c) (λ u. inl (old c (i.0, u))) (λ u. inr (i.0, and_in (not_in u) i.1))

  closed_shut : (o : Qubits) (p : ℕ) (c : Check) → Closed checks o c → Closed checks (put p false o) c
  closed_shut o p c i = (i.0, ap empty? (part_shut o p c.row (empty_out (part o c.row) i.1)))

  peel_good : (st : State) (d : ℕ × Check) → dangling (is_open st.mark) checks ≡ some d → Good checks lost fixed (on st)
      → Good checks lost fixed (peel checks st d.0 d.1)
  peel_good st d e v =
      settle_good st d.0 2 _ (Plus (Closed checks o) d.1) refl (λ c i. inl i) new (peel_keeps v d.0 d.1 z.0)
    where
      o : Qubits
      o = is_open st.mark

      z : (part o d.1.row ≡ d.0 ∷ []) × Memᴰ d.1 checks
      z = dangling_is o checks d e

      new : (c : Check) → Plus (Closed checks o) d.1 c → Closed checks (put d.0 false o) c
      new c (inl i) = closed_shut o d.0 c i
      new c (inr i) = subst (Closed checks (put d.0 false o)) (sym i) (z.1, ap empty? (part_last o d.0 d.1.row z.0))

  guess_good : (st : State) (p : ℕ) → is_open st.mark p ≡ true → Good checks lost fixed (on st) → Good checks lost fixed (guess checks st p)
  guess_good st p e v =
      settle_good st p 3 _ (Closed checks (is_open st.mark)) refl (λ c i. i) (closed_shut (is_open st.mark) p) (guess_keeps v p e)

  pub turn_good : (n : ℕ) (choose : Qubits → Option ℕ) → Rule n choose → (st : State) → Good checks lost fixed (on st)
      → Good checks lost fixed (turn checks n choose st)
  turn_good n choose rule =
      turn_keeps checks n choose (Good checks lost fixed) peel_good (λ st p e. guess_good st p (rule.names_open (is_open st.mark) p e))

  start_invariant : Invariant lost fixed (is_open (start_mark lost fixed)) (λ c. ⊥) blank
  start_invariant =
      record {
        open_lost = λ q e. (and_out (lost q) (not (fixed q)) (sym (start_open (lost q) (fixed q)) ∙ e)).0;
        fixed_shut = λ q e. start_open (lost q) (fixed q) ∙ rw e (&&_false (lost q));
        top = λ q k l. refl;
        blank = λ q e g. refl;
        decided = λ c r. absurd r;
        sound = λ g. record { inside = λ q e. never e refl; zeros = λ q e. refl; reads = λ c r. absurd r };
        whole = λ x s. (
          λ k. false,
          λ q e. bit (x q)
              (λ t. bit (fixed q) (λ u. s.zeros q u) (λ u. never (and_in (s.inside q t) (not_in u)) (sym (start_open (lost q) (fixed q)) ∙ e)))
              (λ t. t),
        );
        once = λ g h e k l. absurd (not-suc-le-zero l);
      }

  pub start_good : Good checks lost fixed (start checks lost fixed)
  unfolding start
  start_good =
      stage_good mark 0 (take_up_all (closed? (is_open mark)) checks blank)
      (result_iff lost fixed (is_open mark) (take_up_all (closed? (is_open mark)) checks blank) to (λ c i. inr i)
      (take_all_keeps lost fixed (is_open mark) (λ c. ⊥) blank (closed? (is_open mark)) checks (closed_is_decided (is_open mark)) start_invariant))
    where
      mark : ℕ → ℕ
      mark = start_mark lost fixed

      to : (c : Check) → Also (λ b. ⊥) (closed? (is_open mark)) checks c → Closed checks (is_open mark) c
      to c (inl i) = absurd i
      to c (inr i) = i
