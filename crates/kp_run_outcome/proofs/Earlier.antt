-- An outcome that was carried out from a moment was so from an earlier one since which nothing happened.
use Rattle.std.proofs.Common.{◌≡◌, ap, subst, ◌∙◌}
use Rattle.kp_outside.specs.Outside.{Rises, AddsFront, with_bytes}
use Rattle.kp_run_outcome.specs.declared.outcome.FilePut.{FilePut}
use Rattle.kp_run_outcome.specs.declared.outcome.Outcome.{Outcome}
use Rattle.kp_run_outcome.specs.declared.status.Status.{Status}
use Rattle.kp_run_outcome.specs.Ends.{Outside, NoGetFailed, NoPutFailed, NoWriteFailed, NothingFailed, IsUntouched, StopsAt, CarriesOut, whole, put_failed, put_no_memory, print_failed, print_no_memory, with_files}

module _ (o : Outcome) (old mid new : Outside) (calm : NothingFailed old mid) (same : IsUntouched old mid) where
  no_get : NoGetFailed mid new → NoGetFailed old new
  no_get h q = h q ∙ calm.gets q

  no_put : NoPutFailed mid new → NoPutFailed old new
  no_put h q = h q ∙ calm.puts q

  no_write : NoWriteFailed mid new → NoWriteFailed old new
  no_write h = h ∙ calm.writes

  nothing : NothingFailed mid new → NothingFailed old new
  nothing h = record { gets = no_get h.gets; puts = no_put h.puts; writes = no_write h.writes }

  stops : (file : FilePut) → StopsAt o.puts mid.held new.held file → StopsAt o.puts old.held new.held file
  stops file h = subst (λ m. StopsAt o.puts m new.held file) same.held h

  files : new.held ≡ with_files mid.held o.puts → new.held ≡ with_files old.held o.puts
  files h = h ∙ ap (λ m. with_files m o.puts) same.held

  pub carried_from : (s : Status) → CarriesOut o mid new s → CarriesOut o old new s
  carried_from s (whole is none held told) = whole is (nothing none) (files held) (told ∙ ap (λ t. with_bytes t o.text) same.told)
  carried_from s (put_failed file is at rises gets writes told) = put_failed file is (stops file at) (subst (λ n. Rises n (new.put_faults file.name)) (calm.puts file.name) rises) (no_get gets) (no_write writes) (told ∙ same.told)
  carried_from s (put_no_memory file is at none told) = put_no_memory file is (stops file at) (nothing none) (told ∙ same.told)
  carried_from s (print_failed is held front rises gets puts has_text) = print_failed is (files held) (subst (λ t. AddsFront t new.told o.text) same.told front) (subst (λ n. Rises n new.write_faults) calm.writes rises) (no_get gets) (no_put puts) has_text
  carried_from s (print_no_memory is held front none has_text) = print_no_memory is (files held) (subst (λ t. AddsFront t new.told o.text) same.told front) (nothing none) has_text
