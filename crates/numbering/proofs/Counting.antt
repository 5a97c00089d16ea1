-- The numbers of the columns, counted word by word, and a row added so. Assumes nothing.
use mathlib.Core.Path.{◌≡◌, refl, sym, ap, ap₂, ◌∙◌, subst}
use mathlib.Core.Bool.{Bool, true, false, cond, ◌&&◌}
use mathlib.Core.Logic.{◌⊎◌, inl, inr, ⊎_elim}
use mathlib.Core.List.{List}
use Prim.Native.Nat.{ℕ, suc, ◌+◌, ◌*◌, ◌/◌, ◌%◌, ◌^◌, ◌≤◌, ◌<◌}
use native.Mathlib.Nat.{suc-mul, mul-le-mul_right}
use native.Mathlib.Omega.{arith}
use borrow.Author.Tests.{leb-true, ltb-true, le-leb, lt-ltb}
use lib.Bits.{bit_and, bit_xor}
use lib.Dec.{leb, ltb}
use lib.ListN.{length, length-set, get_or, set}
use lib.Seq.{get_or-set_same, get_or-set_other}
use Rattle.binary.specs.Words.{bit}
use Rattle.binary.proofs.Bits.{and_in, and_out, never}
use Rattle.binary.proofs.WordBits.{order, bit-bit_and, bit-bit_xor}
use Rattle.packing.specs.Packed.{cell}
use Rattle.packing.proofs.Rows.{apart, few_words}
use Rattle.columns.specs.Planes.{planes, Carried, number}
use Rattle.columns.specs.Columns.{untaken}
use Rattle.binary.proofs.Weights.{weigh_same}
use Rattle.columns.proofs.Numbers.{untaken_at}
use Rattle.numbering.specs.Numbering.{Counted, Stays, inside?, RowsIn, Joined, JoinedBy, WhereInside, NumberedRow}

-- A number is told by its planes.
pub number_same : (m m' : List ℕ) (c : ℕ) → ((p : ℕ) → p < 10 → get_or m' (8192 + 16 * (c / 64) + p) 0 ≡ get_or m (8192 + 16 * (c / 64) + p) 0)
    → number m' c ≡ number m c
unfolding planes
number_same m m' c h = weigh_same (λ p. 2 ^ p) 10 _ _ (λ p l. ap (λ (x : ℕ). bit x (c % 64)) (h p l))

----------------------------------------------------------------------
-- Word by word

-- The first k words are counted: each column has as many more as the weight says where it is in `into`, or as many less where it is in `down` too.
pub record Counting (weight k : ℕ) (down into : ℕ → Bool) (m m' : List ℕ) : Type 0 where
  pub stays : Stays m m'
  pub later : (j : ℕ) → 8192 + 16 * k ≤ j → j < 8448 → get_or m' j 0 ≡ get_or m j 0
  pub numbers : (c : ℕ) → c < 64 * k → (x : Bool) × Carried (down c) (cond (into c) weight 0) (cond x 1024 0) (number m c) (number m' c)

module _ (weight : ℕ) (down into : ℕ → Bool) (m₀ : List ℕ) where
  pub counting_none : Counting weight 0 down into m₀ m₀
  counting_none = record { stays = λ k h. refl; later = λ j h l. refl; numbers = λ c h. absurd (omega arith) }

  module _ (k : ℕ) (m : List ℕ) (s : Counting weight k down into m₀ m) (few : k < 16) where
    -- From a list with the same planes and untaken columns to one that differs in the planes of word k.
    counting_more : (m₁ m₂ : List ℕ) → ((j : ℕ) → 8192 ≤ j → get_or m₁ j 0 ≡ get_or m j 0)
        → ((j : ℕ) → (j < 8192 + 16 * k) ⊎ (8192 + 16 * k + 16 ≤ j) → get_or m₂ j 0 ≡ get_or m₁ j 0)
        → ((b : ℕ) → b < 64
        → (x : Bool) × Carried (down (64 * k + b)) (cond (into (64 * k + b)) weight 0) (cond x 1024 0) (number m₁ (64 * k + b)) (number m₂ (64 * k + b)))
        → Counting weight (k + 1) down into m₀ m₂
    counting_more m₁ m₂ same kept new =
        record {
          stays = λ j h. kept j (inr (omega arith)) ∙ same j (omega arith) ∙ s.stays j h;
          later = λ j h l. kept j (inr (omega arith)) ∙ same j (omega arith) ∙ s.later j (omega arith) l;
          numbers = λ c h. ⊎_elim
              (λ (g : c < 64 * k). let z = s.numbers c g in (
                z.0,
                rw (number_same m m₂ c (λ p l. kept (8192 + 16 * (c / 64) + p) (inl (omega arith)) ∙ same (8192 + 16 * (c / 64) + p) (omega arith))) z.1,
              ))
              (λ (g : 64 * k ≤ c). here c h g)
              (order c (64 * k));
        }
      where
        here : (c : ℕ) → c < 64 * (k + 1) → 64 * k ≤ c
            → (x : Bool) × Carried (down c) (cond (into c) weight 0) (cond x 1024 0) (number m₀ c) (number m₂ c)
        here c h g =
            let e : 64 * k + c % 64 ≡ c = omega arith in
            let z = new (c % 64) (omega arith) in
            let old = number_same m₀ m₁ c (λ p l. same (8192 + 16 * (c / 64) + p) (omega arith) ∙ s.later (8192 + 16 * (c / 64) + p) (omega arith) (omega arith)) in
            (z.0, rw (← old) (subst (λ (x : ℕ). Carried (down x) (cond (into x) weight 0) (cond z.0 1024 0) (number m₁ x) (number m₂ x)) e z.1))

    pub counting_word : (bits : ℕ) (less : ℕ → Bool) (m₁ m₂ : List ℕ) → ((j : ℕ) → 8192 ≤ j → get_or m₁ j 0 ≡ get_or m j 0) → Counted k weight bits less m₁ m₂
        → ((b : ℕ) → b < 64 → less b ≡ down (64 * k + b)) → ((b : ℕ) → b < 64 → bit bits b ≡ into (64 * k + b))
        → Counting weight (k + 1) down into m₀ m₂
    counting_word bits less m₁ m₂ same t d i =
        counting_more m₁ m₂ same t.kept (λ b h. let z = t.sums b h in (
          z.0,
          subst (λ (x : Bool). Carried x (cond (into (64 * k + b)) weight 0) (cond z.0 1024 0) (number m₁ (64 * k + b)) (number m₂ (64 * k + b))) (d b h)
              (subst (λ (x : Bool). Carried (less b) (cond x weight 0) (cond z.0 1024 0) (number m₁ (64 * k + b)) (number m₂ (64 * k + b))) (i b h) z.1),
        ))

-- The untaken bits of a row's word.
pub untaken_bits : (k : ℕ) (m₀ m : List ℕ) → Stays m₀ m → (word b : ℕ) → b < 64
    → bit (bit_and word (get_or m (8448 + k) 0)) b ≡ (bit word b && untaken m₀ (64 * k + b))
untaken_bits k m₀ m s word b h =
    bit-bit_and word (get_or m (8448 + k) 0) b ∙ ap (bit word b &&◌) (ap (λ (x : ℕ). bit x b) (s (8448 + k) (omega arith)) ∙ sym (untaken_at m₀ k b h))

pub cell_bit : (m : List ℕ) (w i k b : ℕ) → b < 64 → bit (get_or m (i * w + k) 0) b ≡ cell m w i (64 * k + b)
unfolding cell
cell_bit m w i k b h =
    let d : (64 * k + b) / 64 ≡ k = omega arith in
    let e : (64 * k + b) % 64 ≡ b = omega arith in
    rw (d, e)

-- Word k of row i, which has not changed, in the untaken columns.
pub row_bits : (w i k : ℕ) (m₀ m : List ℕ) → get_or m (i * w + k) 0 ≡ get_or m₀ (i * w + k) 0 → Stays m₀ m
    → (b : ℕ) → b < 64 → bit (bit_and (get_or m (i * w + k) 0) (get_or m (8448 + k) 0)) b ≡ (cell m₀ w i (64 * k + b) && untaken m₀ (64 * k + b))
row_bits w i k m₀ m same stays b l =
    untaken_bits k m₀ m stays (get_or m (i * w + k) 0) b l ∙ ap (◌&& untaken m₀ (64 * k + b)) (ap (λ (x : ℕ). bit x b) same ∙ cell_bit m₀ w i k b l)

----------------------------------------------------------------------
-- A row counted

pub counted_row : (w i : ℕ) (m m' : List ℕ) → length m' ≡ length m → ((k : ℕ) → k < 8192 → get_or m' k 0 ≡ get_or m k 0)
    → Counting 1 w (λ c. false) (λ c. cell m w i c && untaken m c) m m' → NumberedRow w i m m'
counted_row w i m m' e kept s = record { long = e; kept = kept; stays = s.stays; numbers = s.numbers }

----------------------------------------------------------------------
-- A row added

-- The first k words are added.
pub record Joining (weight : ℕ) (down into : ℕ → Bool) (w from to k : ℕ) (m m' : List ℕ) : Type 0 where
  pub long : length m' ≡ length m
  pub words : (j : ℕ) → j < k → get_or m' (to * w + j) 0 ≡ bit_xor (get_or m (to * w + j) 0) (get_or m (from * w + j) 0)
  pub kept : (j : ℕ) → j < 8192 → (j < to * w) ⊎ (to * w + k ≤ j) → get_or m' j 0 ≡ get_or m j 0
  pub counting : Counting weight k down into m m'

abbrev pub Adding : ℕ → ℕ → ℕ → ℕ → List ℕ → List ℕ → Type 0
Adding w from to k m m' = Joining 1 (cell m w to) (λ c. cell m w from c && untaken m c) w from to k m m'

abbrev pub Merging : ℕ → ℕ → ℕ → ℕ → List ℕ → List ℕ → Type 0
Merging w from to k m m' = Joining 2 (λ c. true) (λ c. cell m w from c && cell m w to c && untaken m c) w from to k m m'

-- Merged or added.
abbrev pub JoiningBy : Bool → ℕ → ℕ → ℕ → ℕ → List ℕ → List ℕ → Type 0
JoiningBy false w from to k m m' = Adding w from to k m m'
JoiningBy true w from to k m m' = Merging w from to k m m'

pub joining_none : (weight : ℕ) (down into : ℕ → Bool) (w from to : ℕ) (m : List ℕ) → Joining weight down into w from to 0 m m
joining_none weight down into w from to m =
    record { long = refl; words = λ j h. absurd (omega arith); kept = λ j h l. refl; counting = counting_none weight down into m }

-- Row i ends before the planes.
pub row_ends : (w i : ℕ) → w ≤ 16 → i < 512 → i * w + w ≤ 8192
row_ends w i a b = omega (arith, suc-mul i w, few_words (suc i) w (omega arith) a)

-- Of two rows, a word of one is below the other, or above its word.
ahead : (w from to k : ℕ) → k < w → (from * w + k < to * w) ⊎ (to * w + k ≤ from * w + k)
ahead w from to k h =
    ⊎_elim (λ (p : from < to). inl (omega (arith, apart w from to p)))
    (λ (p : to ≤ from). inr (omega (arith, mul-le-mul_right {m = to} {n = from} w p))) (order from to)

module _ (weight : ℕ) (down into : ℕ → Bool) (w from to k : ℕ) (m₀ m : List ℕ) (wide : w ≤ 16) (low : from * w + w ≤ 8192) (ends : to * w + w ≤ 8192) (room : 10240 ≤ length m₀)
    (s : Joining weight down into w from to k m₀ m) (h : k < w) where
  abbrev new : ℕ
  new = get_or m (from * w + k) 0

  abbrev old : ℕ
  old = get_or m (to * w + k) 0

  new_same : get_or m (from * w + k) 0 ≡ get_or m₀ (from * w + k) 0
  new_same = s.kept (from * w + k) (omega arith) (ahead w from to k h)

  old_same : get_or m (to * w + k) 0 ≡ get_or m₀ (to * w + k) 0
  old_same = s.kept (to * w + k) (omega arith) (inr (omega arith))

  -- The bits of both words are cells.
  joining_more : (bits : ℕ) (less : ℕ → Bool) (m₂ : List ℕ) → Counted k weight bits less (set m (to * w + k) (bit_xor old new)) m₂
      → ((b : ℕ) → b < 64 → bit old b ≡ cell m₀ w to (64 * k + b) → bit new b ≡ cell m₀ w from (64 * k + b)
      → (less b ≡ down (64 * k + b)) × (bit bits b ≡ into (64 * k + b))) → Joining weight down into w from to (k + 1) m₀ m₂
  joining_more bits less m₂ t told =
      record {
        long = t.long ∙ length-set m (to * w + k) v ∙ s.long;
        words = λ j l. t.kept (to * w + j) (inl (omega arith)) ∙ ⊎_elim
            (λ (g : j < k). get_or-set_other m (to * w + k) (to * w + j) v 0 (λ e. omega arith) ∙ s.words j g)
            (λ (g : k ≤ j). let e : j ≡ k = omega arith in
            rw e (get_or-set_same m (to * w + k) v 0 (omega (arith, s.long)) ∙ ap₂ bit_xor old_same new_same))
            (order j k);
        kept = λ j l o. t.kept j (inl (omega arith))
            ∙ get_or-set_other m (to * w + k) j v 0 (λ e. ⊎_elim (λ (p : j < to * w). omega arith) (λ (p : to * w + (k + 1) ≤ j). omega arith) o)
            ∙ s.kept j l (⊎_elim (λ p. inl p) (λ (p : to * w + (k + 1) ≤ j). inr (omega arith)) o);
        counting = counting_word weight down into m₀ k m s.counting (omega arith) bits less (set m (to * w + k) v) m₂
            (λ j g. get_or-set_other m (to * w + k) j v 0 (λ e. omega arith)) t (λ b l. (by b l).0) (λ b l. (by b l).1);
      }
    where
      v : ℕ
      v = bit_xor old new

      by : (b : ℕ) → b < 64 → (less b ≡ down (64 * k + b)) × (bit bits b ≡ into (64 * k + b))
      by b l =
          told b l (ap (λ (x : ℕ). bit x b) old_same ∙ cell_bit m₀ w to k b l) (ap (λ (x : ℕ). bit x b) new_same ∙ cell_bit m₀ w from k b l)

module _ (w from to k : ℕ) (m₀ m : List ℕ) (wide : w ≤ 16) (low : from * w + w ≤ 8192) (ends : to * w + w ≤ 8192) (room : 10240 ≤ length m₀) where
  abbrev sum : List ℕ
  sum = set m (to * w + k) (bit_xor (get_or m (to * w + k) 0) (get_or m (from * w + k) 0))

  pub adding_more : Adding w from to k m₀ m → k < w → (m₂ : List ℕ)
      → Counted k 1 (bit_and (get_or m (from * w + k) 0) (get_or m (8448 + k) 0)) (bit (get_or m (to * w + k) 0)) sum m₂ → Adding w from to (k + 1) m₀ m₂
  adding_more s h m₂ t =
      joining_more _ _ _ w from to k m₀ m wide low ends room s h _ _ m₂ t
      (λ b l x y. (x, untaken_bits k m₀ m s.counting.stays (get_or m (from * w + k) 0) b l ∙ ap (◌&& untaken m₀ (64 * k + b)) y))

  pub merging_more : Merging w from to k m₀ m → k < w → (m₂ : List ℕ)
      → Counted k 2 (bit_and (bit_and (get_or m (from * w + k) 0) (get_or m (to * w + k) 0)) (get_or m (8448 + k) 0)) (λ _. true) sum m₂ → Merging w from to (k + 1) m₀ m₂
  merging_more s h m₂ t =
      joining_more _ _ _ w from to k m₀ m wide low ends room s h _ _ m₂ t
      (λ b l x y. (
        refl,
        untaken_bits k m₀ m s.counting.stays (bit_and (get_or m (from * w + k) 0) (get_or m (to * w + k) 0)) b l
            ∙ ap (◌&& untaken m₀ (64 * k + b)) (bit-bit_and (get_or m (from * w + k) 0) (get_or m (to * w + k) 0) b ∙ ap₂ ◌&&◌ y x),
      ))

pub joined : (weight : ℕ) (down into : ℕ → Bool) (w from to : ℕ) (m m' : List ℕ) → Joining weight down into w from to w m m' → Joined weight down into w from to m m'
unfolding cell
joined weight down into w from to m m' s =
    record {
      long = s.long;
      cells = λ c h. ap (λ (x : ℕ). bit x (c % 64)) (s.words (c / 64) (omega arith)) ∙ bit-bit_xor (get_or m (to * w + c / 64) 0) (get_or m (from * w + c / 64) 0) (c % 64);
      kept = s.kept;
      stays = s.counting.stays;
      beyond = s.counting.later;
      numbers = s.counting.numbers;
    }

pub joined_by : (merges : Bool) (w from to : ℕ) (m m' : List ℕ) → JoiningBy merges w from to w m m' → JoinedBy merges w from to m m'
joined_by false w from to m m' s = joined _ _ _ w from to m m' s
joined_by true w from to m m' s = joined _ _ _ w from to m m' s

pub by_none : (merges : Bool) (w from to : ℕ) (m : List ℕ) → JoiningBy merges w from to 0 m m
by_none false w from to m = joining_none _ _ _ w from to m
by_none true w from to m = joining_none _ _ _ w from to m

----------------------------------------------------------------------
-- Rows that lie in the list

pub inside_in : (len w i : ℕ) → w ≤ 16 → i < 512 → 10240 ≤ len → inside? len w i ≡ true
unfolding inside?
inside_in len w i a b d = and_in (and_in (le-leb w 16 a) (lt-ltb i 512 b)) (le-leb 10240 len d)

pub inside_out : (len w i : ℕ) → inside? len w i ≡ true → (w ≤ 16) × (i * w + w ≤ 8192) × (10240 ≤ len)
unfolding inside?
inside_out len w i t =
    let a = and_out (leb w 16 && ltb i 512) (leb 10240 len) t in
    let b = and_out (leb w 16) (ltb i 512) a.0 in
    let wide = leb-true w 16 b.0 in
    (wide, row_ends w i wide (ltb-true i 512 b.1), leb-true 10240 len a.1)

module _ (w from to : ℕ) (m : List ℕ) (r s : Bool) (a : r ≡ inside? (length m) w from) (b : s ≡ inside? (length m) w to) where
  pub rows_in_lem : (r && s) ≡ true → RowsIn w from to m
  rows_in_lem t =
      let z = and_out r s t in
      let x = inside_out (length m) w from (sym a ∙ z.0) in
      let y = inside_out (length m) w to (sym b ∙ z.1) in
      (x.0, x.1, y.1, x.2)

  pub where_inside : (m' : List ℕ) (Change : Type 0) → (r && s) ≡ true → Change → WhereInside w from to m m' Change
  where_inside m' Change t x = record { made = λ _ _. x; refused = λ f. never t (rw (a, b) f) }

  pub not_inside : (Change : Type 0) → (r && s) ≡ false → WhereInside w from to m m Change
  not_inside Change f = record { made = λ x y. never (and_in (a ∙ x) (b ∙ y)) f; refused = λ _. refl }
