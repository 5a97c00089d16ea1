-- P1 to P12, the shots with unread rows and the guess rule, computed. Assumes nothing.
use mathlib.Core.Path.{refl}
use Rattle.binary.specs.Meaning.{fixed?}
use Rattle.machine.specs.Machine.{start, run, decoded}
use Rattle.machine.specs.Report.{shown}
use Rattle.machine.specs.Bench.{bench, BenchLaw, unread_bench, UnreadBenchLaw, guess_bench, GuessBenchLaw}

pub bench_shots : BenchLaw
unfolding BenchLaw bench decoded run start shown fixed?
bench_shots = refl

pub unread_shots : UnreadBenchLaw
unfolding UnreadBenchLaw unread_bench decoded run start shown fixed?
unread_shots = refl

pub guesses : GuessBenchLaw
unfolding GuessBenchLaw guess_bench
guesses = refl
