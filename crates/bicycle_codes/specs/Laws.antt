-- What is shown of the rows of all sizes and terms that are accepted (document 02, request c).
--   records_of   the code as records: kind 1 with its sizes, and its rows
--   CarriedOut  records that are carried out one after the other, on lists that are long enough
--   Lawful      each row strictly ascending and below 2 × l × m; every X row shares an even number of qubits with every Z row, in the words of the code's own test;
--               the records are carried out to the last, and the code is complete
--   BicycleLaw  the rows of all accepted sizes and terms are so
use Rattle.std.specs.Prelude.{◌≡◌, Bool, true, false, List, [], ◌∷◌, ◌++◌, map, ℕ, ◌*◌, length}
use Rattle.std.proofs.Math.Option.{none}
use Rattle.binary.specs.Meaning.{All, commute?}
use Rattle.code.specs.Tests.{Ascending}
use Rattle.records.specs.declared.Pauli.TheVariants.{X, Z}
use Rattle.records.specs.Records.{Record, size, row}
use Rattle.records.specs.History.{History, ready, empty_shot}
use Rattle.records.specs.Table.{refusal, takes}
use Rattle.bicycle_codes.specs.declared.Bicycle.{Bicycle}
use Rattle.bicycle_codes.specs.Bicycle.{places, code_of, grid?, term?}

abbrev pub records_of : Bicycle → List Record
records_of g = size (2 * places g) (places g) (places g) ∷ (map (row X) (code_of g).xs ++ map (row Z) (code_of g).zs)

-- None is refused, and the last leaves code and shot b.
abbrev pub CarriedOut : History → List Record → History → Type 0
CarriedOut a [] b = a ≡ b
CarriedOut a (w ∷ ws) b = ((six : ℕ → Bool) → refusal false six w a ≡ none) × CarriedOut (takes w a) ws b

pub record Lawful (g : Bicycle) : Type 0 where
  pub xs : All (Ascending (2 * places g)) (code_of g).xs
  pub zs : All (Ascending (2 * places g)) (code_of g).zs
  pub weights : All (λ r. length r ≡ 6) ((code_of g).xs ++ (code_of g).zs)
  pub commute : commute? (code_of g).zs (code_of g).xs ≡ true
  -- Whatever code and shot there were.
  pub loads : (a : History) → CarriedOut a (records_of g) (ready (code_of g) empty_shot)

unfoldable pub BicycleLaw : Type 0
BicycleLaw = (g : Bicycle) → grid? g ≡ false → term? g ≡ false → Lawful g
