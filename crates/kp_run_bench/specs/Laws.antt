-- What is proved of runs on generated problems.
use Rattle.std.specs.Prelude.{◌≡◌}
use Rattle.kp_run_outcome.specs.declared.outcome.Outcome.{Outcome}
use Rattle.kp_words.specs.Asked.{Asked}
use Rattle.kp_run_bench.specs.Bench.{Benches}

-- a run comes to one outcome
abbrev pub BenchesHaveOneOutcome : Type 0
BenchesHaveOneOutcome = (c : Asked) (o u : Outcome) → Benches c o → Benches c u → o ≡ u
