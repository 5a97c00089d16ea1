-- A row that joins the dangling rows or leaves them, and a row's number set. Assumes nothing.
use mathlib.Core.Path.{◌≡◌, refl, sym, ap, ◌∙◌}
use mathlib.Core.Bool.{Bool, true, false, not, cond}
use mathlib.Core.List.{List}
use Prim.Native.Nat.{ℕ, suc, ◌+◌, ◌-◌, ◌*◌, ◌/◌, ◌%◌, ◌≤◌, ◌<◌}
use native.Mathlib.Omega.{arith}
use lib.Dec.{eqb, ltb}
use lib.ListN.{length, get_or, set, length-set}
use lib.Seq.{get_or-set_same, get_or-set_other}
use borrow.Author.Tests.{eq-eqb, ne_eqb, eqb-true, eqb-false, lt-ltb, le-ltb}
use Rattle.binary.specs.Bits.{◌⊕◌, tally}
use Rattle.binary.proofs.Bits.{bit, ⊕_false, not_out, below_out, tally_same, tally_few, none_counted}
use Rattle.binary.proofs.Weights.{tally_up}
use Rattle.bitsets.specs.Bitsets.{in_set, NextIn, Flipped}
use Rattle.kept.specs.Kept.{single?, Tallied, Changed, Changes, Numbered, Retallied, Lowered, Raised, Lowest, dangles?}
use Rattle.kept.proofs.Same.{set_same}

----------------------------------------------------------------------
-- The set and the total

module _ (i : ℕ) (joins : Bool) (old mid new : List ℕ) (few : i < 512) (long : 9216 ≤ length old) (f : Flipped 1024 i old mid) where
  pub changed : length new ≡ length mid → ((k : ℕ) → (8200 ≡ k → ⊥) → get_or new k 0 ≡ get_or mid k 0)
      → get_or new 8200 0 ≡ cond joins (cond (ltb (get_or mid 8200 0) 512) (get_or mid 8200 0 + 1) (get_or mid 8200 0)) (get_or mid 8200 0 - 1)
      → Changed i joins old new
  changed same others told =
      let total : get_or mid 8200 0 ≡ get_or old 8200 0 = f.beyond 8200 (omega arith) in
      record {
        long = same ∙ f.long;
        sets = λ t j h l. set_same mid new t j (others (8 * t + j / 64) (λ e. omega arith)) ∙ f.flipped few (omega arith) t j l;
        total = rw (← total) told;
        below = λ k h. others k (λ e. omega arith) ∙ f.rest k (omega arith);
        beyond = λ k h. others k (λ e. omega arith) ∙ f.beyond k (omega arith);
      }

  abbrev total : ℕ
  total = get_or mid 8200 0

  pub joined : joins ≡ true → total < 512 → new ≡ set mid 8200 (total + 1) → Changed i joins old new
  joined e h n = changed (rw n (length-set mid 8200 (total + 1))) (λ k d. rw n (get_or-set_other mid 8200 k (total + 1) 0 (λ t. d (sym t))))
      (rw (n, e, lt-ltb total 512 h) (get_or-set_same mid 8200 (total + 1) 0 (omega (arith, f.long))))

  pub full : joins ≡ true → 512 ≤ total → new ≡ mid → Changed i joins old new
  full e h n = changed (rw n) (λ k d. rw n) (rw (n, e, le-ltb total 512 h))

  pub parted : joins ≡ false → new ≡ set mid 8200 (total - 1) → Changed i joins old new
  parted e n = changed (rw n (length-set mid 8200 (total - 1))) (λ k d. rw n (get_or-set_other mid 8200 k (total - 1) 0 (λ t. d (sym t))))
      (rw (n, e) (get_or-set_same mid 8200 (total - 1) 0 (omega (arith, f.long))))

module _ (i : ℕ) (joins : Bool) (old new : List ℕ) where
  pub changes : 9216 ≤ length old → i < 512 → Changed i joins old new → Changes i joins old new
  changes long few c = record { long = c.long; changed = λ a b. c; refused = λ f. absurd (f long few) }

  pub unchanged : (9216 ≤ length old → i < 512 → ⊥) → new ≡ old → Changes i joins old new
  unchanged f e = record { long = ap length e; changed = λ a b. absurd (f a b); refused = λ g. e }

----------------------------------------------------------------------
-- A row's number set

-- Everything beside the numbers and the dangling rows stays.
pub record Renumbered (i number : ℕ) (old new : List ℕ) : Type 0 where
  pub long : length new ≡ length old
  pub below : (k : ℕ) → k < 8192 → get_or new k 0 ≡ get_or old k 0
  pub past : (k : ℕ) → 9216 ≤ k → get_or new k 0 ≡ get_or old k 0
  pub numbered : Numbered i number old new
  pub tallied : Retallied i old new

-- Where the row's number is set, and nothing else.
module _ (i number : ℕ) (old : List ℕ) (few : i < 512) (long : 9216 ≤ length old) where
  abbrev mid : List ℕ
  mid = set old (8704 + i) number

  mid_count : (j : ℕ) → get_or mid (8704 + j) 0 ≡ cond (eqb i j) number (get_or old (8704 + j) 0)
  mid_count j =
      bit (eqb i j)
      (λ e. let same = eqb-true i j e in rw (e, ← same) (get_or-set_same old (8704 + i) number 0 (omega arith)))
      (λ e. rw e (get_or-set_other old (8704 + i) (8704 + j) number 0 (λ t. eqb-false i j e (omega arith))))

  mid_sets : (t j : ℕ) → t ≤ 1024 → j < 512 → in_set mid t j ≡ in_set old t j
  mid_sets t j h l = set_same old mid t j (get_or-set_other old (8704 + i) (8 * t + j / 64) number 0 (λ e. omega arith))

  -- The numbers of a list that has those of mid.
  abbrev Counts : List ℕ → Type 0
  Counts new = (j : ℕ) → get_or new (8704 + j) 0 ≡ get_or mid (8704 + j) 0

  single_other : (new : List ℕ) → Counts new → (j : ℕ) → eqb i j ≡ false → single? new j ≡ single? old j
  single_other new c j e = rw (c j, mid_count j, e)

  single_own : (new : List ℕ) → Counts new → single? new i ≡ eqb number 1
  single_own new c = rw (c i, mid_count i, eq-eqb i i refl)

  renumbered : (new : List ℕ) → length new ≡ length old → ((k : ℕ) → k < 8192 → get_or new k 0 ≡ get_or old k 0) → ((k : ℕ) → 9216 ≤ k → get_or new k 0 ≡ get_or old k 0) → Counts new
      → Retallied i old new → Renumbered i number old new
  renumbered new same below past c t = record { long = same; below = below; past = past; numbered = λ j h. c j ∙ mid_count j; tallied = t }

  mid_below : (k : ℕ) → k < 8704 → get_or mid k 0 ≡ get_or old k 0
  mid_below k h = get_or-set_other old (8704 + i) k number 0 (λ e. omega arith)

  mid_past : (k : ℕ) → 9216 ≤ k → get_or mid k 0 ≡ get_or old k 0
  mid_past k h = get_or-set_other old (8704 + i) k number 0 (λ e. omega arith)

  total_mid : get_or mid 8200 0 ≡ get_or old 8200 0
  total_mid = mid_below 8200 (omega arith)

  -- The row neither dangled nor dangles.
  pub dangles_never : (number ≡ 1 → ⊥) → (get_or old (8704 + i) 0 ≡ 1 → ⊥) → Renumbered i number old mid
  dangles_never now then =
      renumbered mid (length-set old (8704 + i) number) (λ k h. mid_below k (omega arith)) mid_past (λ j. refl)
      (λ n a b v. record {
        dangling = λ j l. mid_sets 1024 j (omega arith) (omega arith) ∙ v.dangling j l ∙ sym (same j);
        total = total_mid ∙ v.total ∙ sym (tally_same n (single? old) (single? mid) (λ j l. same j));
      })
    where
      same : (j : ℕ) → single? mid j ≡ single? old j
      same j =
          bit (eqb i j)
          (λ e. let d = eqb-true i j e in rw (← d) (single_own mid (λ k. refl) ∙ ne_eqb number 1 now ∙ sym (ne_eqb (get_or old (8704 + i) 0) 1 then)))
          (λ e. single_other mid (λ k. refl) j e)

  -- The row dangles from now on, or no longer.
  module _ (joins : Bool) (new : List ℕ) (c : Changed i joins mid new) where
    new_counts : Counts new
    new_counts j = c.beyond (8704 + j) (omega arith)

    flipped : single? new i ≡ not (single? old i) → (n : ℕ) → n ≤ 512 → Tallied n old → (j : ℕ) → j < n → in_set new 1024 j ≡ single? new j
    flipped turned n a v j l =
        c.sets 1024 j (omega arith) (omega arith) ∙ ap (λ (x : Bool). x ⊕ eqb j i) (mid_sets 1024 j (omega arith) (omega arith) ∙ v.dangling j l)
        ∙ bit (eqb i j)
        (λ e. let d = eqb-true i j e in rw (← d, eq-eqb i i refl) (turn (single? old i) ∙ sym turned))
        (λ e. rw (ne_eqb j i (λ t. eqb-false i j e (sym t)), single_other new new_counts j e) (⊕_false (single? old j)))
      where
        turn : (x : Bool) → x ⊕ true ≡ not x
        turn true = refl
        turn false = refl

    turned_over : single? new i ≡ not (single? old i) → ((n : ℕ) → n ≤ 512 → i < n → Tallied n old → get_or new 8200 0 ≡ tally n (single? new)) → Renumbered i number old new
    turned_over turned t =
        renumbered new (c.long ∙ length-set old (8704 + i) number) (λ k h. c.below k h ∙ mid_below k (omega arith)) (λ k h. c.beyond k (omega arith) ∙ mid_past k h) new_counts
        (λ n a b v. record { dangling = flipped turned n a v; total = t n a b v })

  pub dangles_no_longer : (number ≡ 1 → ⊥) → get_or old (8704 + i) 0 ≡ 1 → (new : List ℕ) → Changed i false mid new → Renumbered i number old new
  dangles_no_longer now-not then_one new c =
      let counts = new_counts false new c in
      let now : single? new i ≡ false = single_own new counts ∙ ne_eqb number 1 now-not in
      let then : single? old i ≡ true = eq-eqb (get_or old (8704 + i) 0) 1 then_one in
      turned_over false new c (now ∙ sym (ap not then))
      (λ n a b v. let up = tally_up n i (single? new) (single? old) b now then (λ j e. sym (single_other new counts j e)) in
      let told : get_or mid 8200 0 ≡ suc (tally n (single? new)) = total_mid ∙ v.total ∙ up in
      c.total ∙ rw told (omega arith))

  pub dangles_now : number ≡ 1 → (get_or old (8704 + i) 0 ≡ 1 → ⊥) → (new : List ℕ) → Changed i true mid new → Renumbered i number old new
  dangles_now now-one then-not new c =
      let counts = new_counts true new c in
      let now : single? new i ≡ true = single_own new counts ∙ eq-eqb number 1 now-one in
      let then : single? old i ≡ false = ne_eqb (get_or old (8704 + i) 0) 1 then-not in
      turned_over true new c (now ∙ sym (ap not then))
      (λ n a b v.
      let up = tally_up n i (single? old) (single? new) b then now (λ j e. single_other new counts j e) in
      let most = tally_few n (single? new) in
      let told : get_or mid 8200 0 ≡ tally n (single? old) = total_mid ∙ v.total in
      c.total ∙ rw (told, lt-ltb (tally n (single? old)) 512 (omega arith)) (omega arith))

  -- The row has one open qubit less, of two at most.
  pub dangles_turned : number < 2 → get_or old (8704 + i) 0 ≡ number + 1 → (new : List ℕ) → Changed i (eqb number 1) mid new → Renumbered i number old new
  dangles_turned few-left then new c =
      bit (eqb number 1)
      (λ e. let one = eqb-true number 1 e in dangles_now one (λ t. omega arith) new (rw e at c))
      (λ e. let none = eqb-false number 1 e in dangles_no_longer none (omega arith) new (rw e at c))

module _ (i : ℕ) (old : List ℕ) where
  pub lowered : 9216 ≤ length old → i < 512 → (left : ℕ) → left + 1 ≡ get_or old (8704 + i) 0 → (new : List ℕ) → Renumbered i left old new → Lowered i old new left
  lowered long few left is new r =
      record { long = r.long; below = r.below; past = r.past; lowered = λ a b d. (is, r.numbered, r.tallied); refused = λ f. absurd (f long few (omega arith)) }

module _ (i : ℕ) (old : List ℕ) where
  pub raised : (few : i < 512) (long : 9216 ≤ length old) → Raised i old (mid i (get_or old (8704 + i) 0 % 1024 + 1) old few long)
  raised few long =
      let number = get_or old (8704 + i) 0 % 1024 + 1 in
      record {
        long = length-set old (8704 + i) number;
        below = mid_below i number old few long;
        past = mid_past i number old few long;
        raised = λ a b j h. mid_count i number old few long j;
        refused = λ f. absurd (f long few);
      }

----------------------------------------------------------------------
-- The lowest dangling row

none_tallied : (n : ℕ) (f : ℕ → Bool) → tally n f ≡ 0 → (j : ℕ) → j < n → f j ≡ false
none_tallied n f e j h = not_out (f j) (below_out n _ (none_counted n f e) j h)

module _ (count : ℕ) (work : List ℕ) where
  -- Where the list is short or the total is 0.
  pub lowest_none : (9216 ≤ length work → get_or work 8200 0 ≡ 0) → Lowest count work count
  lowest_none z =
      record {
        within = omega arith;
        by_total = λ e. refl;
        short = λ s. refl;
        by_set = λ l f. absurd (f (z l));
        lowest = λ l o c e k. (
          (λ h. absurd (omega arith)),
          (λ j h. none_tallied c.count (dangles? o c) (sym k.total ∙ z l) j (omega arith)),
        );
      }

  pub lowest_found : 9216 ≤ length work → (get_or work 8200 0 ≡ 0 → ⊥) → (r : ℕ) → NextIn work 1024 0 count r → Lowest count work r
  lowest_found long some r f =
      let w = f.within (omega arith) in
      record {
        within = w.1;
        by_total = λ z. absurd (some z);
        short = λ s. absurd (omega arith);
        by_set = λ l e. f;
        lowest = λ l o c e k. (
          (λ h. sym (k.dangling r (omega arith)) ∙ f.found h),
          (λ j h. sym (k.dangling j (omega arith)) ∙ f.skipped j (omega arith) h),
        );
      }
