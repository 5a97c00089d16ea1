-- `candidates::give` meets its contract. Assumes nothing.
use Rattle.std.specs.Prelude.{Result}
use mathlib.Core.Path.{◌≡◌, refl, sym, ◌∙◌}
use native.Mathlib.Omega.{arith}
use borrow.Author.Rules.{rules}
use lib.ListN.{length}
use Rattle.records.specs.Lowest.{lowest}
use Rattle.candidates_meaning.specs.declared.CandidateRefusal.{CandidateRefusal}
use Rattle.candidates_meaning.specs.Asking.{Asked, candidate_tests, candidate_answer}
use Rattle.candidates.proofs.Giving.{Tested, given_room, given_number, gives_none, gives_one}
use Rattle.candidates.proofs.give.Goals as goal
use Rattle.candidates.proofs.give.Goals.{After-is_many}

-- What the call is handed, and what its tests are.
abbrev asked : After-is_many → Asked
asked a = let args = a.args in record { n = args.n; word = args.word; live = args.live; marks = args.marks.now; forms = args.forms.now; number = args.number }

tested : (a : After-is_many) (r : Result (Unit {0}) CandidateRefusal)
    → r ≡ candidate_answer (lowest (candidate_tests a.is_short-short.result a.is_unfinished-unfinished.result a.is_many.result))
    → Tested (asked a) (length a.args.list.now) r
tested a r answer =
    record {
      short = a.is_short-short.result;
      unfinished = a.is_unfinished-unfinished.result;
      many = a.is_many.result;
      is_short = a.is_short-short.ensures;
      counted = a.is_unfinished-unfinished.ensures;
      is_many = a.is_many.ensures;
      answer = answer;
    }

pub returns-in_err-answered : goal.returns-in_err-answered
returns-in_err-answered c =
    let a = (goal.at.returns-in_err-answered c).After-is_many in
    let e : c.from_residual.result ≡ c.answered.result = search rules in
    gives_none _ (tested a _ (e ∙ c.answered.ensures)) _ (e ∙ c.in_err-answered.was)

pub overflow_mul-number : goal.overflow_mul-number
overflow_mul-number c =
    let z = given_number (tested (goal.at.overflow_mul-number c).After-is_many _ c.answered.ensures) c.in_ok-answered.was in omega arith

pub overflow_add-number : goal.overflow_add-number
overflow_add-number c =
    let z = given_number (tested (goal.at.overflow_add-number c).After-is_many _ c.answered.ensures) c.in_ok-answered.was in omega arith

pub write-requires : goal.write-requires
write-requires c =
    let z = given_room (tested (goal.at.write-requires c).After-is_many _ c.answered.ensures) c.in_ok-answered.was in record { n_in_bounds = z.forms; n_bound = z.list }

pub returns : goal.returns
returns c =
    let a = (goal.at.returns c).After-is_many in
    gives_one _ _ (tested a _ (sym c.in_ok-answered.was ∙ c.answered.ensures)) refl _ refl c.write.ensures
