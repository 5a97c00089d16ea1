-- Where peeling leaves nothing, no qubit is fixed. Assumes nothing.
use mathlib.Core.Path.{◌≡◌, refl, sym, ap, ◌∙◌, fun_ext}
use mathlib.Core.Bool.{Bool, true, false, not}
use mathlib.Core.Option.{Option, none, some}
use mathlib.Core.List.{List, [], ◌∷◌}
use Prim.Native.Nat.{ℕ, zero, suc, ◌+◌, ◌<◌}
use native.Mathlib.Nat.{zero-add}
use native.Mathlib.Omega.{arith}
use lib.Dec.{eqb}
use Rattle.binary.specs.Bits.{below}
use Rattle.binary.specs.Meaning.{Qubits, Row, Check, Below, All, odd, Inside, product, Fixed, fixed?}
use Rattle.binary.specs.Classes.{Commuting}
use Rattle.binary.proofs.Bits.{⊕_false, bit, never, below_out, not_out, eqb_eq}
use Rattle.binary.proofs.Rows.{all_out, odd_product}
use Rattle.binary.proofs.Tests.{fixed_out}
use Rattle.machine.specs.Machine.{dangling, Half, checks, fixed_of}
use Rattle.machine.specs.Demands.{Obeys}
use Rattle.machine.specs.Peeling.{peel_step, peeled, peels_away, PeelLaw}
use Rattle.machine.proofs.Settling.{odd_open, shut_less}
use Rattle.machine.proofs.Stages.{dangling_is}
use Rattle.machine.proofs.Demands.{commuting}

----------------------------------------------------------------------
-- An error that fires no row is 0 on what peels

-- No row fires on the error.
abbrev Silent : Qubits → List Check → Type 0
Silent e cs = All (λ c. odd e c.row ≡ false) cs

-- The qubit that a dangling row settles.
settled_zero : (cs : List Check) (o e : Qubits) → Inside e o → Silent e cs → (d : ℕ × Check) → dangling o cs ≡ some d → e d.0 ≡ false
settled_zero cs o e i s d h =
    let z = dangling_is o cs d h in
    let off : (x : ℕ) → o x ≡ false → e x ≡ false = λ x f. bit (e x) (λ t. never (i x t) f) (λ t. t) in
    sym (⊕_false (e d.0)) ∙ ap (odd e) (sym z.0) ∙ sym (odd_open o e d.1.row off) ∙ all_out (λ c. odd e c.row ≡ false) cs s d.1 z.1

-- The error lies in what is left, after each step.
still_inside : (cs : List Check) (o e : Qubits) → Inside e o → Silent e cs → Inside e (peel_step (dangling o cs) o)
still_inside cs o e i s = look (dangling o cs) refl
  where
    look : (d : Option (ℕ × Check)) → dangling o cs ≡ d → Inside e (peel_step d o)
    look none h = i
    look (some d) h =
        λ q t. bit (eqb d.0 q) (λ u. never t (ap e (sym (eqb_eq d.0 q u)) ∙ settled_zero cs o e i s d h)) (λ u. rw u (i q t))

peeled_inside : (cs : List Check) (m : ℕ) (o e : Qubits) → Inside e o → Silent e cs → Inside e (peeled cs m o)
peeled_inside cs zero o e i s = i
peeled_inside cs (suc m) o e i s = peeled_inside cs m (peel_step (dangling o cs) o) e (still_inside cs o e i s) s

silent : (others : List Row) (c : ℕ → Bool) (e : Qubits) → ((q : ℕ) → e q ≡ product others c q) → (cs : List Check) → Commuting others cs → Silent e cs
silent others c e same [] v = tt
silent others c e same (k ∷ cs) v =
    (ap (λ (f : Qubits). odd f k.row) (fun_ext same) ∙ odd_product others k.row v.0 c, silent others c e same cs v.1)

-- However many steps are made.
module _ (n : ℕ) (others : List Row) (lost : Qubits) (cs : List Check) (others_below : Below n others) (lost_below : (q : ℕ) → lost q ≡ true → q < n)
    (even : Commuting others cs) where
  pub unfixed_after : (m : ℕ) → below n (λ q. not (peeled cs m lost q)) ≡ true → (q : ℕ) → fixed? n others lost q ≡ false
  unfixed_after m away q = bit (fixed? n others lost q) (λ t. go (fixed_out n others lost others_below q t)) (λ t. t)
    where
      go : Fixed others lost q → fixed? n others lost q ≡ false
      go f =
          let inside = peeled_inside cs m lost f.0 f.2 (silent others f.1.0 f.0 f.1.1 cs even) q f.3.0 in
          never inside (not_out (peeled cs m lost q) (below_out n _ away q (lost_below q (f.2 q f.3.0))))

  pub unfixed : peels_away cs n lost ≡ true → (q : ℕ) → fixed? n others lost q ≡ false
  unfolding peels_away
  unfixed = unfixed_after n

module _ (h : Half) (obeys : Obeys h) where
  pub half_unfixed_after : (m : ℕ) → below h.size (λ q. not (peeled (checks h) m h.lost q)) ≡ true → (q : ℕ) → fixed_of h q ≡ false
  half_unfixed_after =
      unfixed_after h.size h.others h.lost (checks h) obeys.others_below obeys.lost_below
      (commuting h.others 0 h.lit h.unread h.rows obeys.commute)

pub peel_law : PeelLaw
unfolding PeelLaw peels_away
peel_law h obeys = half_unfixed_after h obeys h.size

----------------------------------------------------------------------
-- Steps after steps

pub peeled_plus : (cs : List Check) (k j : ℕ) (o : Qubits) → peeled cs (k + j) o ≡ peeled cs j (peeled cs k o)
peeled_plus cs zero j o = ap (λ (m : ℕ). peeled cs m o) (zero-add j)
peeled_plus cs (suc k) j o =
    let e : suc k + j ≡ suc (k + j) = omega arith in
    ap (λ (m : ℕ). peeled cs m o) e ∙ peeled_plus cs k j (peel_step (dangling o cs) o)

step_less : (d : Option (ℕ × Check)) (o : Qubits) (q : ℕ) → peel_step d o q ≡ true → o q ≡ true
step_less none o q t = t
step_less (some d) o q t = bit (o q) (λ e. e) (λ e. never t (shut_less o d.0 q e))

-- A qubit that is left was open.
pub peeled_less : (cs : List Check) (m : ℕ) (o : Qubits) (q : ℕ) → peeled cs m o q ≡ true → o q ≡ true
peeled_less cs zero o q t = t
peeled_less cs (suc m) o q t = step_less (dangling o cs) o q (peeled_less cs m (peel_step (dangling o cs) o) q t)

-- Where no row dangles, no step changes anything.
pub peeled_stays : (cs : List Check) (m : ℕ) (o : Qubits) → dangling o cs ≡ none → peeled cs m o ≡ o
peeled_stays cs zero o h = refl
peeled_stays cs (suc m) o h = ap (λ (d : Option (ℕ × Check)). peeled cs m (peel_step d o)) h ∙ peeled_stays cs m o h
