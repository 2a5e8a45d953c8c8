-- What the clauses of `run` say, each of the words of a run, of the outside before it and after, and of the status with which it ended.
use Rattle.std.specs.Prelude.{◌≡◌, Some}
use Rattle.kp_outside.specs.Outside.{FileMap}
use Rattle.kp_run_outcome.specs.declared.status.Status.TheVariants as status
use Rattle.kp_words.specs.Asked.{Asked}
use Rattle.kp_words.specs.Command.{IsCall}
use Rattle.kp_words.specs.declared.verb.Verb.TheVariants as verbs
use Rattle.kp_run.specs.Soundness.{IsSound}
use Rattle.kp_run.specs.Completeness.{Ending, LosesNoPlan}
use Rattle.kp_run.specs.Solved.{SolveIsTrue, ClassicalIsTrue}

-- a `translate` that ended with Done is sound, where the shelf tells what it holds
abbrev pub IsSoundRun : Ending
IsSoundRun words old new s = (before after : FileMap) (c : Asked) → old.held ≡ Some before → new.held ≡ Some after → IsCall verbs.Translate words c → s ≡ status.Done → IsSound before after c

-- a `lift` loses no plan of the files of a `translate` that told `complete`; `ends` says how that one ended, and in `run` it is `Ends`
abbrev pub IsCompleteRun : Ending → Ending
IsCompleteRun ends words old new s = (c : Asked) → IsCall verbs.Lift words c → LosesNoPlan ends c old new s

-- what a `solve` says of its files is true
abbrev pub IsSolveRun : Ending
IsSolveRun words old new s = (m : FileMap) (c : Asked) → old.held ≡ Some m → IsCall verbs.Solve words c → SolveIsTrue m c old new s

-- and what a `classical` says of its own
abbrev pub IsClassicalRun : Ending
IsClassicalRun words old new s = (m : FileMap) (c : Asked) → old.held ≡ Some m → IsCall verbs.Classical words c → ClassicalIsTrue m c old new s
