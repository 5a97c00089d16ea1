-- Errors, rows and products (document 01, "Meaning").
--   Qubits       a set of qubits: an error, a lost set; no_qubit: the empty set
--   Row          a row, also called a check: the list of its qubits; `has` is the row as a set
--   Check        a row with its reading: whether it is lit
--   fires        a row fires on an error if they share an odd number of qubits
--   Fits         the error lies in the lost set and fires exactly the lit rows
--   sum          the sum of two sets, modulo 2
--   product      the product of the rows that are chosen: their sum modulo 2
--   Differ       two errors differ by a product
--   Commute      every row of one kind shares an even number of qubits with every row of the other
--   Fixed        the lowest qubit of a product that is not empty and lies wholly in the lost set
-- Each of the last five has a test that computes it, of the same name with a question mark; Qubits below n are looked at.
use Rattle.std.specs.Prelude.{◌≡◌, Bool, true, false, not, ◌&&◌, ◌||◌, List, [], ◌∷◌, ℕ, suc, ◌<◌, eqb}
use Rattle.std.specs.Bool.{beq}
use Rattle.binary.specs.Bits.{◌⊕◌, below}

-- Every element of a list has the property.
abbrev pub All {ℓ} : {A : Type ℓ} → (A → Type 0) → List A → Type 0
All P [] = Unit {0}
All P (x ∷ xs) = P x × All P xs

abbrev pub all? {ℓ} : {A : Type ℓ} → (A → Bool) → List A → Bool
all? f [] = true
all? f (x ∷ xs) = f x && all? f xs

-- An error is a set of qubits, and so are the lost set and a product.
abbrev pub Qubits : Type 0
Qubits = ℕ → Bool

abbrev pub no_qubit : Qubits
no_qubit q = false

abbrev pub Row : Type 0
Row = List ℕ

-- The rows' qubits lie below n.
abbrev pub Below : ℕ → List Row → Type 0
Below n rows = All (All (λ q. q < n)) rows

-- A row with its reading.
pub record Check : Type 0 where
  pub lit : Bool
  pub row : Row

-- The row as a set: whether it has qubit q.
abbrev pub has : Row → Qubits
has [] q = false
has (p ∷ r) q = eqb p q || has r q

-- Whether an odd number of the row's qubits lie in the set.
abbrev pub odd : Qubits → Row → Bool
odd e [] = false
odd e (q ∷ r) = e q ⊕ odd e r

-- A row fires on an error if they share an odd number of qubits.
abbrev pub fires : Row → Qubits → Bool
fires r e = odd e r

-- A set lies in another.
abbrev pub Inside : Qubits → Qubits → Type 0
Inside s l = (q : ℕ) → s q ≡ true → l q ≡ true

abbrev pub inside? : ℕ → Qubits → Qubits → Bool
inside? n s l = below n (λ q. not (s q) || l q)

-- A check reads right on an error: its row fires exactly if it is lit.
abbrev pub Reads : Qubits → Check → Type 0
Reads e c = fires c.row e ≡ c.lit

-- An error fits if it lies in the lost set and fires exactly the lit rows.
abbrev pub Fits : Qubits → List Check → Qubits → Type 0
Fits lost checks e = Inside e lost × All (Reads e) checks

abbrev pub fits? : ℕ → Qubits → List Check → Qubits → Bool
fits? n lost checks e = inside? n e lost && all? (λ c. beq (fires c.row e) c.lit) checks

-- The sum of two sets, modulo 2.
abbrev pub sum : Qubits → Qubits → Qubits
sum a b q = a q ⊕ b q

-- The product of the rows that c chooses: their sum modulo 2; the empty set, from no rows, is one too.
abbrev pub product : List Row → (ℕ → Bool) → Qubits
product [] c q = false
product (r ∷ rs) c q = (c 0 && has r q) ⊕ product rs (λ i. c (suc i)) q

abbrev pub IsProduct : List Row → Qubits → Type 0
IsProduct rs s = (c : ℕ → Bool) × ((q : ℕ) → s q ≡ product rs c q)

-- Whether some product of the rows passes the test: all are tried.
abbrev pub any_product : List Row → (Qubits → Bool) → Bool
any_product [] f = f (λ q. false)
any_product (r ∷ rs) f = any_product rs f || any_product rs (λ s. f (λ q. has r q ⊕ s q))

-- Two errors differ by a product if their sum modulo 2 is that product.
abbrev pub Differ : List Row → Qubits → Qubits → Type 0
Differ rs a b = IsProduct rs (sum a b)

abbrev pub differ? : ℕ → List Row → Qubits → Qubits → Bool
differ? n rs a b = any_product rs (λ s. below n (λ q. beq (a q ⊕ b q) (s q)))

-- Commuting rows: each of one kind shares an even number of qubits with each of the other.
abbrev pub Even : Row → Row → Type 0
Even r k = odd (has k) r ≡ false

abbrev pub Commute : List Row → List Row → Type 0
Commute rows others = All (λ r. All (Even r) others) rows

unfoldable pub commute? : List Row → List Row → Bool
commute? rows others = all? (λ r. all? (λ k. not (odd (has k) r)) others) rows

-- q is the lowest qubit of the set.
abbrev pub Lowest : Qubits → ℕ → Type 0
Lowest s q = (s q ≡ true) × ((p : ℕ) → p < q → s p ≡ false)

abbrev pub lowest? : Qubits → ℕ → Bool
lowest? s q = s q && below q (λ p. not (s p))

-- A fixed qubit: the lowest one of some product of other-kind rows that lies wholly in the lost set and is not the empty set.
-- All such products count, not only single rows.
abbrev pub Fixed : List Row → Qubits → ℕ → Type 0
Fixed others lost q = (s : Qubits) × IsProduct others s × Inside s lost × Lowest s q

unfoldable pub fixed? : ℕ → List Row → Qubits → ℕ → Bool
fixed? n others lost q = any_product others (λ s. lowest? s q && inside? n s lost)
