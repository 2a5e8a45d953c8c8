-- A command has what its words say, and of all else nothing is said.
use Rattle.std.proofs.Common.{◌≡◌, ℕ, Bool, true, false, List, [], Option, Some, None, codes, map, if◌then◌else◌, refl, sym, subst}
use Rattle.kp_base.specs.declared.limits.Mode.{Mode}
use Rattle.kp_words_options.specs.Words.{has_text}
use Rattle.kp_words.specs.declared.source.Family.{Family}
use Rattle.kp_words.specs.declared.verb.Verb.{Verb}
use Rattle.kp_words.specs.Asked.{Asked}
use Rattle.kp_words.specs.Forms.{form}
use Rattle.kp_words.specs.Options.{SaysMode, SaysLimit, SaysBudget, SaysBound, SaysFamily, SaysSize, AreNotBoth, usual_limit, usual_budget, usual_bound, usual_mode, no_family, no_size}
use Rattle.kp_words.specs.Command.{said, place_in, value_in, AreOf}
use Rattle.kp_words.specs.Owned.{kept, mode_beside}
use Rattle.kp_words.proofs.Lookups.{absent}

-- a command of these parts
unfoldable pub making : Verb → List ℕ → List ℕ → List ℕ → List ℕ → List ℕ → List ℕ → Mode → Option (List ℕ) → ℕ → ℕ → ℕ → Option (List ℕ) → Family → ℕ → Asked
making verb domain problem plan written domain_out problem_out mode merges implicates budget bound classical family size =
    record { verb = verb; domain = domain; problem = problem; plan = plan; written = written; domain_out = domain_out; problem_out = problem_out; mode = mode; merges = merges; implicates = implicates; budget = budget; bound = bound; classical = classical; family = family; size = size }

-- what is said by a word is kept where there is such a word, and is the usual one where there is none
part_kept : {X : Type 0} (P : Option (List ℕ) → X → Type 0) (usual : X) (o : Option (List ℕ)) (b : Bool) (x : X) → (b ≡ false → o ≡ None) → (P None x → x ≡ usual) → P o x → x ≡ (if b then x else usual)
part_kept P usual o true x gone back p = refl
part_kept P usual o false x gone back p = back (subst (λ z. P z x) (gone refl) p)

module _ (v : Verb) (places : List (List ℕ)) (values : List (Option (List ℕ))) (c : Asked) (verb : c.verb ≡ v) (a : AreOf v places values c) where
  placed : {X : Type 0} (P : Option (List ℕ) → X → Type 0) (usual : X) (name : List ℕ) (x : X) → (P None x → x ≡ usual) → P (place_in v places name) x → x ≡ (if has_text (form v).places name then x else usual)
  placed P usual name x = part_kept P usual (place_in v places name) (has_text (form v).places name) x (absent (form v).places (map Some places) name)

  valued : {X : Type 0} (P : Option (List ℕ) → X → Type 0) (usual : X) (name : List ℕ) (x : X) → (P None x → x ≡ usual) → P (value_in v values name) x → x ≡ (if has_text (form v).options name then x else usual)
  valued P usual name x = part_kept P usual (value_in v values name) (has_text (form v).options name) x (absent (form v).options values name)

  pub is_kept : c ≡ kept v c
  unfolding making
  is_kept =
      let e0 = placed (λ o x. x ≡ said o) [] (codes "D") c.domain (λ e. e) a.are_asked.files.domain in
      let e1 = placed (λ o x. x ≡ said o) [] (codes "P") c.problem (λ e. e) a.are_asked.files.problem in
      let e2 = placed (λ o x. x ≡ said o) [] (codes "PLAN") c.plan (λ e. e) a.are_asked.files.plan in
      let e3 = placed (λ o x. x ≡ said o) [] (codes "T") c.written (λ e. e) a.are_asked.files.written in
      let e4 = placed (λ o x. x ≡ said o) [] (codes "OD") c.domain_out (λ e. e) a.are_asked.files.domain_out in
      let e5 = placed (λ o x. x ≡ said o) [] (codes "OP") c.problem_out (λ e. e) a.are_asked.files.problem_out in
      let e6 = valued SaysMode usual_mode (codes "mode") c.mode (λ e. e) a.are_asked.source.mode in
      let e7 = valued (λ o x. x ≡ o) None (codes "merges") c.merges (λ e. e) a.are_asked.source.merges in
      let e8 = valued SaysLimit usual_limit (codes "implicates") c.implicates (λ e. e) a.are_asked.numbers.implicates in
      let e9 = valued SaysBudget usual_budget (codes "budget") c.budget (λ e. e) a.are_asked.numbers.budget in
      let e10 = valued SaysBound usual_bound (codes "bound") c.bound (λ e. e) a.are_asked.numbers.bound in
      let e11 = valued (λ o x. x ≡ o) None (codes "classical") c.classical (λ e. e) a.are_asked.files.classical in
      let e12 = placed SaysFamily no_family (codes "FAMILY") c.family (λ e. e) a.are_asked.generated.family in
      let e13 = placed SaysSize no_size (codes "N") c.size (λ e. e) a.are_asked.generated.size in
      let same : making c.verb c.domain c.problem c.plan c.written c.domain_out c.problem_out c.mode c.merges c.implicates c.budget c.bound c.classical c.family c.size
      ≡ making v (kept v c).domain (kept v c).problem (kept v c).plan (kept v c).written (kept v c).domain_out (kept v c).problem_out (kept v c).mode (kept v c).merges (kept v c).implicates (kept v c).budget (kept v c).bound (kept v c).classical (kept v c).family (kept v c).size = cc in
      same

  -- where a file of merges is named, no mode is said
  pub usual_beside_file : c.mode ≡ mode_beside c.merges c.mode
  usual_beside_file = by c.merges (value_in v values (codes "mode")) a.are_asked.source.mode (subst (AreNotBoth (value_in v values (codes "mode"))) (sym a.are_asked.source.merges) a.are_asked.source.one_source)
    where
      by : (m o : Option (List ℕ)) → SaysMode o c.mode → AreNotBoth o m → c.mode ≡ mode_beside m c.mode
      by None o says alone = refl
      by (Some name) None says alone = says
      by (Some name) (Some word) says alone = absurd alone
