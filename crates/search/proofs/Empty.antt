-- A column that no row has, taken at any time or never, leaves the route's columns and rows. Assumes nothing.
use mathlib.Core.Path.{◌≡◌, refl, sym, ap, ap₂, ◌∙◌, subst, fun_ext}
use mathlib.Core.Bool.{Bool, true, false, not, cond, ◌&&◌}
use mathlib.Core.Logic.{⊎_elim}
use mathlib.Core.List.{List, [], ◌∷◌}
use mathlib.Core.Option.{Option, none, some}
use Prim.Native.Nat.{ℕ, zero, suc, ◌+◌, ◌-◌, ◌≤◌, ◌<◌}
use native.Mathlib.Omega.{arith}
use borrow.Author.Tests.{lt-ltb, le-ltb}
use lib.Dec.{eqb}
use lib.ListN.{length}
use Rattle.binary.specs.Bits.{tally}
use Rattle.binary.specs.Meaning.{Qubits, Row}
use Rattle.binary.proofs.Bits.{bit, never, &&_false, not_out, eqb_eq, below_out, below_in, none_counted, counted_none}
use Rattle.binary.proofs.WordBits.{order}
use Rattle.search.specs.Route.{Stand, column_length, former, without, take_by, clearing, take_column, shortest, step_by, step, steps, begin, known, route, empty?, clearable?, Same, step_but, steps_but, steps_in, EmptyLaw}
use Rattle.search.proofs.Choices.{First?, first_none, first_out, Among, shortest_out, shortest_none, shortest_least, shortest_same}
use Rattle.search.proofs.Stands.{take_same, same_eq, same_trans, take_untaken, ascend_same}
use Rattle.search.proofs.Route.{none_untaken}

----------------------------------------------------------------------
-- A column that no row has

none_has : (rows : ℕ) (s : Stand) (q : ℕ) → empty? rows s q ≡ true → (i : ℕ) → i < rows → s.row i q ≡ false
none_has rows s q e i l =
    not_out (s.row i q) (below_out rows (λ j. not (s.row j q)) (none_counted rows (λ j. s.row j q) (eqb_eq (column_length rows s q) 0 e)) i l)

is_empty : (rows : ℕ) (s : Stand) (q : ℕ) → ((i : ℕ) → i < rows → s.row i q ≡ false) → empty? rows s q ≡ true
is_empty rows s q h = ap (λ (k : ℕ). eqb k 0) (counted_none rows (λ j. s.row j q) (below_in rows (λ j. not (s.row j q)) (λ i l. ap not (h i l))))

empty_taken : (rows q : ℕ) (s : Stand) → empty? rows s q ≡ true → take_column rows q s ≡ record { untaken = without q s.untaken; columns = s.columns; row = s.row }
empty_taken rows q s e = ap (λ (c : Option ℕ). take_by c q s) (first_none rows (λ i. s.row i q) (none_has rows s q e))

empty_same : (rows q : ℕ) (s : Stand) → empty? rows s q ≡ true → Same (take_column rows q s) s
empty_same rows q s e = same_eq (take_column rows q s) (record { untaken = without q s.untaken; columns = s.columns; row = s.row }) (empty_taken rows q s e)

-- A row that clears another column has not this one, and is added to rows that have not.
empty_stays : (rows p q : ℕ) (s : Stand) → empty? rows s q ≡ true → empty? rows (take_column rows p s) q ≡ true
empty_stays rows p q s e = by (clearing rows p s) (first_out rows (λ i. s.row i p))
  where
    by : (c : Option ℕ) → First? rows (λ i. s.row i p) c → empty? rows (take_by c p s) q ≡ true
    by none f = e
    by (some i) f = is_empty rows (take_by (some i) p s) q (λ j l. ⊎_elim (left j l) (λ (g : j ≤ length s.columns). rw (le-ltb (length s.columns) j g)) (order (length s.columns) j))
      where
        place : (j : ℕ) → j < rows → length s.columns < j → former (length s.columns) i j < rows
        place j l g = bit (eqb j i) (λ d. rw d (omega arith)) (λ d. rw d l)

        left : (j : ℕ) → j < rows → length s.columns < j → (take_by (some i) p s).row j q ≡ false
        left j l g =
            rw (lt-ltb (length s.columns) j g, none_has rows s q e (former (length s.columns) i j) (place j l g), none_has rows s q e i f.0)
            (&&_false (s.row (former (length s.columns) i j) p))

----------------------------------------------------------------------
-- Stands that the steps can't tell apart

-- The columns that can still be cleared are the same too.
record Alike (rows : ℕ) (s t : Stand) : Type 0 where
  same : Same s t
  left : (q : ℕ) → clearable? rows s q ≡ clearable? rows t q

module _ (n rows : ℕ) where
  alike_refl : (s : Stand) → Alike rows s s
  alike_refl s = record { same = (refl, refl); left = λ q. refl }

  alike_trans : (s t v : Stand) → Alike rows s t → Alike rows t v → Alike rows s v
  alike_trans s t v a b = record { same = same_trans s t v a.same b.same; left = λ q. a.left q ∙ b.left q }

  alike_sym : (s t : Stand) → Alike rows s t → Alike rows t s
  alike_sym s t a = record { same = (sym a.same.0, sym a.same.1); left = λ q. sym (a.left q) }

  same_empty : (s t : Stand) → Same s t → (q : ℕ) → empty? rows s q ≡ empty? rows t q
  same_empty s t e q = ap (λ (r : ℕ → Qubits). eqb (tally rows (λ i. r i q)) 0) e.1

  taken_left : (p q : ℕ) (s : Stand) → clearable? rows (take_column rows p s) q ≡ (without p s.untaken q && not (empty? rows (take_column rows p s) q))
  taken_left p q s = ap (λ (u : Qubits). u q && not (empty? rows (take_column rows p s) q)) (take_untaken rows p s)

  alike_taken : (p : ℕ) (s t : Stand) → Alike rows s t → Alike rows (take_column rows p s) (take_column rows p t)
  alike_taken p s t a =
      record {
        same = take_same rows p s t a.same;
        left = λ q. taken_left p q s ∙ bit (empty? rows s q) (gone q) (kept q) ∙ sym (taken_left p q t);
      }
    where
      gone : (q : ℕ) → empty? rows s q ≡ true
          → (without p s.untaken q && not (empty? rows (take_column rows p s) q)) ≡ (without p t.untaken q && not (empty? rows (take_column rows p t) q))
      gone q e =
          rw (empty_stays rows p q s e, empty_stays rows p q t (sym (same_empty s t a.same q) ∙ e))
          (&&_false (without p s.untaken q) ∙ sym (&&_false (without p t.untaken q)))

      kept : (q : ℕ) → empty? rows s q ≡ false
          → (without p s.untaken q && not (empty? rows (take_column rows p s) q)) ≡ (without p t.untaken q && not (empty? rows (take_column rows p t) q))
      kept q e =
          ap₂ (λ (x y : Bool). (x && not (eqb p q)) && not y) (still q e) (same_empty (take_column rows p s) (take_column rows p t) (take_same rows p s t a.same) q)
        where
          plain : (b c : Bool) → c ≡ false → (b && not c) ≡ b
          plain true c d = rw d
          plain false c d = refl

          still : (q : ℕ) → empty? rows s q ≡ false → s.untaken q ≡ t.untaken q
          still q e = sym (plain (s.untaken q) (empty? rows s q) e) ∙ a.left q ∙ plain (t.untaken q) (empty? rows t q) (sym (same_empty s t a.same q) ∙ e)

  -- Taking a column that no row has.
  alike_empty : (p : ℕ) (s : Stand) → empty? rows s p ≡ true → Alike rows (take_column rows p s) s
  alike_empty p s e = record { same = empty_same rows p s e; left = λ q. taken_left p q s ∙ bit (eqb p q) (own q) (other q) }
    where
      now : (q : ℕ) → empty? rows (take_column rows p s) q ≡ empty? rows s q
      now q = same_empty (take_column rows p s) s (empty_same rows p s e) q

      own : (q : ℕ) → eqb p q ≡ true → (without p s.untaken q && not (empty? rows (take_column rows p s) q)) ≡ clearable? rows s q
      own q d =
          let none_left : empty? rows s q ≡ true = subst (λ (x : ℕ). empty? rows s x ≡ true) (eqb_eq p q d) e in
          rw (now q, none_left) (&&_false (without p s.untaken q) ∙ sym (&&_false (s.untaken q)))

      other : (q : ℕ) → eqb p q ≡ false → (without p s.untaken q && not (empty? rows (take_column rows p s) q)) ≡ clearable? rows s q
      other q d = ap₂ (λ (x y : Bool). x && not y) (plain (s.untaken q)) (now q)
        where
          plain : (b : Bool) → (b && not (eqb p q)) ≡ b
          plain true = rw d
          plain false = refl

  alike_step : (s t : Stand) → Alike rows s t → Alike rows (step_but n rows s) (step_but n rows t)
  alike_step s t a = subst (λ (r : Option ℕ). Alike rows (step_by rows r s) (step_but n rows t)) (sym chosen) (by (shortest (column_length rows t) n (clearable? rows t)))
    where
      chosen : shortest (column_length rows s) n (clearable? rows s) ≡ shortest (column_length rows t) n (clearable? rows t)
      chosen = ap₂ (λ (len : ℕ → ℕ) (u : Qubits). shortest len n u) (fun_ext (λ q. ap (λ (r : ℕ → Qubits). tally rows (λ i. r i q)) a.same.1)) (fun_ext a.left)

      by : (r : Option ℕ) → Alike rows (step_by rows r s) (step_by rows r t)
      by none = a
      by (some q) = alike_taken q s t a

  ----------------------------------------------------------------------
  -- Steps that pass them over

  times : ℕ → Stand → Stand
  times zero s = s
  times (suc k) s = times k (step_but n rows s)

  alike_times : (k : ℕ) (s t : Stand) → Alike rows s t → Alike rows (times k s) (times k t)
  unfolding times
  alike_times zero s t a = a
  alike_times (suc k) s t a = alike_times k (step_but n rows s) (step_but n rows t) (alike_step s t a)

  times_last : (k : ℕ) (s : Stand) → times (suc k) s ≡ step_but n rows (times k s)
  unfolding times
  times_last zero s = refl
  times_last (suc k) s = times_last k (step_but n rows s)

  times_more : (i k : ℕ) (s : Stand) → times (k + i) s ≡ times i (times k s)
  unfolding times
  times_more i zero s = ap (λ (x : ℕ). times x s) (let e : 0 + i ≡ i = omega arith in e)
  times_more i (suc k) s = ap (λ (x : ℕ). times x s) (let e : suc k + i ≡ suc (k + i) = omega arith in e) ∙ times_more i k (step_but n rows s)

  -- Whatever is taken between them.
  but_times : (l : List (Option ℕ)) (s : Stand) → Alike rows (steps_but n rows l s) (times (steps_in l) s)
  unfolding times
  but_times [] s = alike_refl s
  but_times (none ∷ l) s = but_times l (step_but n rows s)
  but_times (some q ∷ l) s =
      alike_trans (steps_but n rows l now) (times (steps_in l) now) (times (steps_in l) s) (but_times l now) (alike_times (steps_in l) now s (by (empty? rows s q) refl))
    where
      now : Stand
      now = cond (empty? rows s q) (take_column rows q s) s

      by : (b : Bool) → empty? rows s q ≡ b → Alike rows (cond b (take_column rows q s) s) s
      by true e = alike_empty q s e
      by false e = alike_refl s

  -- A step of the route takes a column that no row has, or is one of these.
  by_step : (s : Stand) → (b : Bool) × Alike rows (step n rows s) (cond b s (step_but n rows s))
  by_step s = look (shortest (column_length rows s) n s.untaken) refl (shortest_out (column_length rows s) s.untaken n)
    where
      same_step : ((p : ℕ) → p < n → clearable? rows s p ≡ s.untaken p) → step_but n rows s ≡ step n rows s
      same_step h = ap (λ (r : Option ℕ). step_by rows r s) (shortest_same (column_length rows s) (clearable? rows s) s.untaken n h)

      look : (r : Option ℕ) → shortest (column_length rows s) n s.untaken ≡ r → Among (column_length rows s) s.untaken n r
          → (b : Bool) × Alike rows (step n rows s) (cond b s (step_but n rows s))
      look none e a = (true, rw e (alike_refl s))
      look (some q) e a = bit (empty? rows s q) (λ d. (true, rw e (alike_empty q s d))) (λ d. (false, subst (Alike rows (step n rows s)) (sym (same_step (has d))) (alike_refl (step n rows s))))
        where
          has : empty? rows s q ≡ false → (p : ℕ) → p < n → clearable? rows s p ≡ s.untaken p
          has d p l = by (s.untaken p) refl
            where
              by : (b : Bool) → s.untaken p ≡ b → (b && not (empty? rows s p)) ≡ b
              by false u = refl
              by true u =
                  let least = shortest_least (column_length rows s) s.untaken n q e p l u in
                  bit (empty? rows s p) (λ z. let zero-p = eqb_eq (column_length rows s p) 0 z in let zero-q : column_length rows s q ≡ 0 = omega arith in never (ap (λ (k : ℕ). eqb k 0) zero-q) d) (λ z. ap not z)

  -- So after k steps of the route at most k of these were made.
  record Steps (k : ℕ) (s : Stand) : Type 0 where
    made : ℕ
    few : made ≤ k
    alike : Alike rows (steps n rows k s) (times made s)

  by_steps : (k : ℕ) (s : Stand) → Steps k s
  unfolding times
  by_steps zero s = record { made = 0; few = omega arith; alike = alike_refl s }
  by_steps (suc k) s = look (by_steps k s) (by_step (steps n rows k s)).0 (by_step (steps n rows k s)).1
    where
      look : Steps k s → (b : Bool) → Alike rows (steps n rows (suc k) s) (cond b (steps n rows k s) (step_but n rows (steps n rows k s))) → Steps (suc k) s
      look x true a = record { made = x.made; few = let f = x.few in omega arith; alike = alike_trans (steps n rows (suc k) s) (steps n rows k s) (times x.made s) a x.alike }
      look x false a =
          record {
            made = suc x.made;
            few = let f = x.few in omega arith;
            alike = subst (Alike rows (steps n rows (suc k) s)) (sym (times_last x.made s))
                (alike_trans (steps n rows (suc k) s) (step_but n rows (steps n rows k s)) (step_but n rows (times x.made s)) a (alike_step (steps n rows k s) (times x.made s) x.alike));
          }

----------------------------------------------------------------------
-- The route

module _ (n : ℕ) (rs : List Row) (lost : Qubits) where
  abbrev s₀ : Stand
  s₀ = begin n rs lost

  -- No column is left to be cleared.
  over : (k : ℕ) → times n (length rs) k (known n rs lost) ≡ known n rs lost
  unfolding times
  over zero = refl
  over (suc k) = ap (times n (length rs) k) done ∙ over k
    where
      done : step_but n (length rs) (known n rs lost) ≡ known n rs lost
      done =
          ap (λ (r : Option ℕ). step_by (length rs) r (known n rs lost))
          (shortest_none (column_length (length rs) (known n rs lost)) (clearable? (length rs) (known n rs lost)) n (λ p l. ap (◌&& not (empty? (length rs) (known n rs lost) p)) (none_untaken n rs lost p l)))

  knowns : (l : List (Option ℕ)) → n ≤ steps_in l → Alike (length rs) (steps_but n (length rs) l s₀) (known n rs lost)
  knowns l enough =
      alike_trans n (length rs) (steps_but n (length rs) l s₀) (times n (length rs) (steps_in l) s₀) (known n rs lost) (but_times n (length rs) l s₀)
      (subst (λ (v : Stand). Alike (length rs) v (known n rs lost)) (sym split) (alike_sym n (length rs) (known n rs lost) (times n (length rs) more (times n (length rs) x.made s₀)) reached))
    where
      x : Steps n (length rs) n s₀
      x = by_steps n (length rs) n s₀

      more : ℕ
      more = steps_in l - x.made

      -- The steps past those change nothing any more.
      reached : Alike (length rs) (known n rs lost) (times n (length rs) more (times n (length rs) x.made s₀))
      reached =
          subst (λ (v : Stand). Alike (length rs) v (times n (length rs) more (times n (length rs) x.made s₀))) (over more)
          (alike_times n (length rs) more (known n rs lost) (times n (length rs) x.made s₀) x.alike)

      split : times n (length rs) (steps_in l) s₀ ≡ times n (length rs) more (times n (length rs) x.made s₀)
      split = ap (λ (k : ℕ). times n (length rs) k s₀) (let f = x.few in let e : steps_in l ≡ x.made + more = omega arith in e) ∙ times_more n (length rs) more x.made s₀

pub empty_columns : EmptyLaw
unfolding EmptyLaw route
empty_columns n rs lost =
    record {
      taken = empty_taken;
      stays = empty_stays;
      knowns = λ l e. (knowns n rs lost l e).same;
      all = λ l e. ascend_same (length rs) lost n (steps_but n (length rs) l (begin n rs lost)) (known n rs lost) (knowns n rs lost l e).same;
    }
