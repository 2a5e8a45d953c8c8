-- What a run of `solve`, of `classical` or of `bench` is about is one pair of trees, and one table.
use Rattle.std.proofs.Common.{◌≡◌, ℕ, List, [], refl, sym, ◌∙◌, subst}
use Rattle.kp_base.specs.declared.ground.TagTable.{TagTable}
use Rattle.kp_base.proofs.Cases.{some_alike}
use Rattle.kp_tree_grammar.specs.declared.tree.Word.{Word}
use Rattle.kp_tree_grammar.specs.Trees.{Domain, Problem}
use Rattle.kp_law_translation.specs.OfTrees.{ground_of, initial_of}
use Rattle.kp_outside.specs.Outside.{FileMap}
use Rattle.kp_words.specs.Asked.{Source, of_mode, source_of}
use Rattle.kp_run_prepare.specs.Texts.{HaveTrees}
use Rattle.kp_run_prepare.proofs.Public.{texts_have_one_domain, texts_have_one_problem}
use Rattle.kp_run_inputs.specs.SourceTables.{HasTable}
use Rattle.kp_run_inputs.proofs.Public.{sources_have_one_table}
use Rattle.kp_run.specs.Solved.{HasTask}
use Rattle.kp_law_runs.specs.Solve.{PosedOnce, ClassicalPosedOnce}
use Rattle.kp_law_runs.specs.Bench.{BenchPosedOnce}

-- ---- one pair of trees, and one table

trees_once : (x y v w : List ℕ) (d e : Domain Word) (p q : Problem Word) → x ≡ v → y ≡ w → HaveTrees x y d p → HaveTrees v w e q → (d ≡ e) × (p ≡ q)
trees_once x y v w d e p q first second h k =
    let there = subst (λ z. HaveTrees v z d p) second (subst (λ z. HaveTrees z y d p) first h) in
    (texts_have_one_domain v w d e p q there k, texts_have_one_problem v w d e p q there k)

table_once : (m : FileMap) (source : Source) (d e : Domain Word) (p q : Problem Word) (t v : TagTable) → d ≡ e → p ≡ q → HasTask m source d p t → HasTask m source e q v → t ≡ v
table_once m source d e p q t v first second h k =
    let there = subst (λ z. HasTask m source e z t) second (subst (λ z. HasTask m source z p t) first h) in
    let same = some_alike there.merges k.merges (sym there.held ∙ k.held) in
    (sources_have_one_table (ground_of e q) (initial_of e q) source k.merges).tables t v (subst (λ z. HasTable (ground_of e q) (initial_of e q) source z t) same there.has_table) k.has_table

pub posed_once : PosedOnce
posed_once m c x y =
    let first : x.given.domain ≡ y.given.domain = cc (sym x.given.domain_held ∙ y.given.domain_held) in
    let second : x.given.problem ≡ y.given.problem = cc (sym x.given.problem_held ∙ y.given.problem_held) in
    let trees = trees_once _ _ _ _ x.about.domain_tree y.about.domain_tree x.about.problem_tree y.about.problem_tree first second x.given.trees y.given.trees in
    (trees.0, trees.1, table_once m (source_of c) x.about.domain_tree y.about.domain_tree x.about.problem_tree y.about.problem_tree x.about.table y.about.table trees.0 trees.1 x.has_task y.has_task)

pub classical_posed_once : ClassicalPosedOnce
classical_posed_once m c x y =
    let first : x.given.domain ≡ y.given.domain = cc (sym x.given.domain_held ∙ y.given.domain_held) in
    let second : x.given.problem ≡ y.given.problem = cc (sym x.given.problem_held ∙ y.given.problem_held) in
    trees_once _ _ _ _ x.domain_tree y.domain_tree x.problem_tree y.problem_tree first second x.given.trees y.given.trees

pub bench_posed_once : BenchPosedOnce
bench_posed_once c x y =
    let trees = trees_once _ _ _ _ x.about.domain_tree y.about.domain_tree x.about.problem_tree y.about.problem_tree refl refl x.trees y.trees in
    (trees.0, trees.1, mode_table_once trees.0 trees.1 x.has_table)
  where
    mode_table_once : x.about.domain_tree ≡ y.about.domain_tree → x.about.problem_tree ≡ y.about.problem_tree → HasTable (ground_of x.about.domain_tree x.about.problem_tree) (initial_of x.about.domain_tree x.about.problem_tree) (of_mode c.mode) [] x.about.table → x.about.table ≡ y.about.table
    mode_table_once first second has =
        let there = subst (λ z. HasTable (ground_of y.about.domain_tree z) (initial_of y.about.domain_tree z) (of_mode c.mode) [] x.about.table) second (subst (λ z. HasTable (ground_of z x.about.problem_tree) (initial_of z x.about.problem_tree) (of_mode c.mode) [] x.about.table) first has) in
        (sources_have_one_table (ground_of y.about.domain_tree y.about.problem_tree) (initial_of y.about.domain_tree y.about.problem_tree) (of_mode c.mode) []).tables x.about.table y.about.table there y.has_table
