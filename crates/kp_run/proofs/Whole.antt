-- A run that ends with an answer carried out the whole of an outcome that is due.
use Rattle.std.proofs.Common.{◌≡◌, ℕ, List, Some, Vec, ap, subst}
use Rattle.std.specs.declared.alloc.Global.{Global}
use Rattle.kp_base.specs.declared.refused.Refused.{Refused}
use Rattle.kp_run_messages.specs.Refusals.{Nameable}
use Rattle.kp_outside.specs.Outside.{FileMap, with_bytes}
use Rattle.kp_run_outcome.specs.declared.outcome.Outcome.{Outcome}
use Rattle.kp_run_outcome.specs.declared.status.Status.{Status}
use Rattle.kp_run_outcome.specs.declared.status.Status.TheVariants as status
use Rattle.kp_run_outcome.specs.Ends.{Outside, IsAnswer, with_files, whole, put_failed, put_no_memory, print_failed, print_no_memory}
use Rattle.kp_run_prepare.specs.Refusing.{refuses}
use Rattle.kp_run.specs.Outcomes.{IsDue}
use Rattle.kp_run.specs.Ends.{Ends, came, read_failed, no_memory}

-- the status is that of the outcome, its files were put, and its text was printed
pub record IsCarriedOut (o : Outcome) (old new : Outside) (s : Status) : Type 0 where
  pub status_is : s ≡ o.status
  pub puts_are : new.held ≡ with_files old.held o.puts
  pub text_is : new.told ≡ with_bytes old.told o.text

-- the outcome that was due, where it is told what is held
pub record Did (words : List (Vec ℕ Global)) (m : FileMap) (old new : Outside) (s : Status) : Type 0 where
  pub outcome : Outcome
  pub due : IsDue words (Some m) outcome
  pub carried_out : IsCarriedOut outcome old new s

pub did : (words : List (Vec ℕ Global)) (old new : Outside) (s : Status) → Ends words old new s → (m : FileMap) → old.held ≡ Some m → IsAnswer s → Did words m old new s
did words old new s (came o due (whole is same held told)) m first answer = record { outcome = o; due = subst (λ h. IsDue words h o) first due; carried_out = record { status_is = is; puts_are = held; text_is = told } }
did words old new s (came o due (put_failed f is a b g h i)) m first answer = absurd (subst IsAnswer is answer)
did words old new s (came o due (put_no_memory f is a b g)) m first answer = absurd (subst IsAnswer is answer)
did words old new s (came o due (print_failed is a b g h i has_text)) m first answer = absurd (subst IsAnswer is answer)
did words old new s (came o due (print_no_memory is a b g has_text)) m first answer = absurd (subst IsAnswer is answer)
did words old new s (read_failed (c, is_command, a) is b g h) m first answer = absurd (subst IsAnswer is answer)
did words old new s (no_memory is a b) m first answer = absurd (subst IsAnswer is answer)

-- ---- refusals

-- an outcome is no refusal
abbrev pub IsNoRefusal : Outcome → Type 0
IsNoRefusal o = (r : Refused) → o.status ≡ status.Refused r → ⊥

pub not_refused : (o : Outcome) (names : Nameable) (r : Refused) → o ≡ refuses names r → IsNoRefusal o → ⊥
not_refused o names r is answers = answers r (ap (λ (z : Outcome). z.status) is)
