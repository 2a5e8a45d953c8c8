-- What a command comes to: one outcome, by its words and by what its input files hold when it begins.
use Rattle.std.specs.Prelude.{List, [], ℕ, Option, Vec}
use Rattle.std.specs.declared.alloc.Global.{Global}
use Rattle.kp_outside.specs.Outside.{FileMap}
use Rattle.kp_run_outcome.specs.declared.outcome.Outcome.{Outcome}
use Rattle.kp_run_outcome.specs.declared.status.Status.TheVariants as status
use Rattle.kp_words.specs.declared.verb.Verb.{Verb}
use Rattle.kp_words.specs.declared.verb.Verb.TheVariants as verbs
use Rattle.kp_words.specs.Asked.{Asked}
use Rattle.kp_words.specs.Usage.{usage_text}
use Rattle.kp_words.specs.Command.{IsCommand, IsNoCommand}
use Rattle.kp_run_bench.specs.Bench.{Benches}
use Rattle.kp_run.specs.Contents.{Contents, AreContents}
use Rattle.kp_run.specs.Translate.{TranslatesTexts}
use Rattle.kp_run.specs.Solve.{SolvesTexts}
use Rattle.kp_run.specs.Classical.{ClassicalTexts}
use Rattle.kp_run.specs.Strip.{StripsText}
use Rattle.kp_run.specs.Lift.{LiftsTexts}
use Rattle.kp_run.specs.Check.{ChecksTexts}
use Rattle.kp_run.specs.Width.{WidthTexts}
use Rattle.kp_run.specs.Merges.{MergesTexts}

-- what a command comes to on what its input files hold, by its verb
abbrev pub ComesBy : Verb → Asked → Contents → Outcome → Type 0
ComesBy verbs.Translate c t = TranslatesTexts c t.domain t.problem t.merges
ComesBy verbs.Solve c t = SolvesTexts c t.domain t.problem t.merges
ComesBy verbs.Classical c t = ClassicalTexts c t.domain t.problem
ComesBy verbs.Strip c t = StripsText t.written
ComesBy verbs.Lift c t = LiftsTexts c t.domain t.problem t.merges t.plan
ComesBy verbs.Check c t = ChecksTexts c t.domain t.problem t.plan
ComesBy verbs.Width c t = WidthTexts c t.domain t.problem
ComesBy verbs.Merges c t = MergesTexts c t.domain t.problem
ComesBy verbs.Bench c t = Benches c

-- a command comes to this outcome on what its input files hold
abbrev pub ComesTo : Asked → Contents → Outcome → Type 0
ComesTo c = ComesBy c.verb c

-- the usage is printed
abbrev pub shows_usage : Outcome
shows_usage = record { status = status.Usage; puts = []; text = usage_text }

-- The outcome that is due: the usage where the words are no command; else what the command comes to on what its input files hold. Where that isn't told, they may hold anything.
pub data IsDue (words : List (Vec ℕ Global)) (held : Option FileMap) : Outcome → Type 0 where
  usage : IsNoCommand words → IsDue words held shows_usage
  of_command : (c : Asked) (t : Contents) (o : Outcome) → IsCommand words c → AreContents held c t → ComesTo c t o → IsDue words held o
