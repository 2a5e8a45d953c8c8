-- Words are one command at most.
use Rattle.std.proofs.Common.{◌≡◌, ◌∙◌, ◌^◌, List, ℕ, Option, Some, None, sym, arith}
use Rattle.kp_words.specs.declared.source.Family.{Family}
use Rattle.kp_words.specs.Asked.{Asked}
use Rattle.kp_words.specs.Options.{SaysFamily, usual_limit, usual_budget, usual_bound, no_size}
use Rattle.kp_words.specs.Command.{AreAsked}
use Rattle.kp_words.specs.Laws.{WordsAreOneCommand}
use Rattle.kp_words.proofs.Calls.{of_line}
use Rattle.kp_words.proofs.SaidOnce.{one_number, one_mode, one_family}
use Rattle.kp_words.proofs.Kept.{making}
use Rattle.kp_words.proofs.Verbs.{behind_it}

one_said_family : (word : Option (List ℕ)) (f g : Family) → SaysFamily word f → SaysFamily word g → f ≡ g
one_said_family None f g a b = a ∙ sym b
one_said_family (Some word) f g a b = one_family f g (sym a ∙ b)

-- what is said of one command asks for one thing at most
one_asked : (place value : List ℕ → Option (List ℕ)) (c d : Asked) → c.verb ≡ d.verb → AreAsked place value c → AreAsked place value d → c ≡ d
unfolding making
one_asked place value c d verb a b =
    let e0 : c.domain ≡ d.domain = a.files.domain ∙ sym b.files.domain in
    let e1 : c.problem ≡ d.problem = a.files.problem ∙ sym b.files.problem in
    let e2 : c.plan ≡ d.plan = a.files.plan ∙ sym b.files.plan in
    let e3 : c.written ≡ d.written = a.files.written ∙ sym b.files.written in
    let e4 : c.domain_out ≡ d.domain_out = a.files.domain_out ∙ sym b.files.domain_out in
    let e5 : c.problem_out ≡ d.problem_out = a.files.problem_out ∙ sym b.files.problem_out in
    let e6 : c.mode ≡ d.mode = one_mode _ c.mode d.mode a.source.mode b.source.mode in
    let e13 : c.merges ≡ d.merges = a.source.merges ∙ sym b.source.merges in
    let e7 : c.implicates ≡ d.implicates = one_number 1 100000 usual_limit c.implicates d.implicates _ (omega arith) a.numbers.implicates b.numbers.implicates in
    let e8 : c.budget ≡ d.budget = one_number 1 1000000 usual_budget c.budget d.budget _ (omega arith) a.numbers.budget b.numbers.budget in
    let e9 : c.bound ≡ d.bound = one_number 0 8 usual_bound c.bound d.bound _ (omega arith) a.numbers.bound b.numbers.bound in
    let e10 : c.classical ≡ d.classical = a.files.classical ∙ sym b.files.classical in
    let e11 : c.family ≡ d.family = one_said_family _ c.family d.family a.generated.family b.generated.family in
    let e12 : c.size ≡ d.size = one_number 2 100 no_size c.size d.size _ (omega arith) a.generated.size b.generated.size in
    let same : making c.verb c.domain c.problem c.plan c.written c.domain_out c.problem_out c.mode c.merges c.implicates c.budget c.bound c.classical c.family c.size
    ≡ making d.verb d.domain d.problem d.plan d.written d.domain_out d.problem_out d.mode d.merges d.implicates d.budget d.bound d.classical d.family d.size = cc in
    same

pub one_command : WordsAreOneCommand
one_command words c d is so =
    let are = is.are_words in
    let also = behind_it c.verb are.rest _ d are.are so.are_words in
    one_asked _ _ c d (sym also.0) are.behind.are_of.are_asked (of_line c.verb are.rest are.behind.places are.behind.values d are.behind.line also.1).are_asked
