-- Tasks that fit, and what agrees on their facts.
use Rattle.std.proofs.Common.{◌≡◌, ℕ, true, Some, length, slice_get, sym, subst}
use Rattle.std.specs.List.{list_all}
use Rattle.std.proofs.lemmas.Bool.{and_parts}
use Rattle.kp_base.proofs.Lists.{all_member, member_at}
use Rattle.kp_classic.specs.declared.task.Op.{Op}
use Rattle.kp_classic.specs.declared.task.Task.{Task}
use Rattle.kp_classic.specs.Fits.{fits, fits_effect, fits_op, IsFit}

-- an operator of a task that fits
pub record OpFits (n : ℕ) (o : Op) : Type 0 where
  pub pre : fits n o.pre ≡ true
  pub effects : list_all (fits_effect n) o.effects ≡ true

pub op_fits : (t : Task) (k n : ℕ) (o : Op) → IsFit t → n ≡ length t.facts → slice_get t.ops k ≡ Some o → OpFits n o
op_fits t k n o fit e at =
    let each = all_member (fits_op (length t.facts)) t.ops o (member_at t.ops k o at) fit.ops in
    let both = and_parts (fits (length t.facts) o.pre) (list_all (fits_effect (length t.facts)) o.effects) each in
    record {
      pre = subst (λ m. fits m o.pre ≡ true) (sym e) both.0;
      effects = subst (λ m. list_all (fits_effect m) o.effects ≡ true) (sym e) both.1;
    }
