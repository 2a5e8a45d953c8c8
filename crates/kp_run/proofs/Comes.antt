-- What it is that a command of a verb comes to.
use Rattle.std.proofs.Common.{◌≡◌, ℕ, List, Option, Vec, sym, subst}
use Rattle.std.specs.declared.alloc.Global.{Global}
use Rattle.kp_outside.specs.Outside.{FileMap}
use Rattle.kp_run_outcome.specs.declared.outcome.Outcome.{Outcome}
use Rattle.kp_words.specs.declared.verb.Verb.{Verb}
use Rattle.kp_words.specs.Asked.{Asked}
use Rattle.kp_words.specs.Forms.{form}
use Rattle.kp_words.specs.Command.{IsCall}
use Rattle.kp_words.proofs.Public.{words_are_one_command}
use Rattle.kp_run.specs.Contents.{Contents, AreContentsUnder, AreContents}
use Rattle.kp_run.specs.Outcomes.{ComesBy, IsDue, usage, of_command}

-- what a command comes to is due
pub due_by : {words : List (Vec ℕ Global)} {held : Option FileMap} (v : Verb) (c : Asked) (t : Contents) (o : Outcome) → IsCall v words c → AreContentsUnder (form v).reads held c t → ComesBy v c t o → IsDue words held o
due_by {words} {held} v c t o is there comes =
    of_command c t o is.is_command (subst (λ w. AreContentsUnder (form w).reads held c t) (sym is.of_verb) there) (subst (λ w. ComesBy w c t o) (sym is.of_verb) comes)

-- and what is due of a command it comes to
pub record IsDueOf (v : Verb) (held : Option FileMap) (c : Asked) (o : Outcome) : Type 0 where
  pub contents : Contents
  pub are : AreContentsUnder (form v).reads held c contents
  pub makes : ComesBy v c contents o

pub due_makes : (words : List (Vec ℕ Global)) (held : Option FileMap) (v : Verb) (c : Asked) (o : Outcome) → IsCall v words c → IsDue words held o → IsDueOf v held c o
due_makes words held v c _ is (usage never) = absurd (never c is.is_command)
due_makes words held v c o is (of_command e t _ so there comes) =
    let same : e ≡ c = words_are_one_command words e c so is.is_command in
    let here = subst (λ (z : Asked). AreContents held z t) same there in
    let made = subst (λ (z : Asked). ComesBy z.verb z t o) same comes in
    record { contents = t; are = subst (λ w. AreContentsUnder (form w).reads held c t) is.of_verb here; makes = subst (λ w. ComesBy w c t o) is.of_verb made }
