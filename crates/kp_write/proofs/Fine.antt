-- The pieces of the written files are fine.
use Rattle.std.proofs.Common.{ℕ, Bool, true, false, List, [], ◌∷◌, refl}
use Rattle.std.specs.List.{AllByRecursion}
use Rattle.kp_lex.specs.Bytes.{class_of, follows}
use Rattle.kp_lex.specs.Cutting.{EndsRunOf}
use Rattle.kp_tree_grammar.specs.Words.{IsHead}
use Rattle.kp_law_texts.specs.Pieces.{Piece, right, spelling, Put, each, spaced}
use Rattle.kp_write.specs.Operators.{Signed, Effect, Op}
use Rattle.kp_write.specs.Written.{fact, fact_line, signed_case, signed, conjunction, guarded, effect_line, precondition, op, domain_pieces, problem_pieces}
use Rattle.kp_law_texts.specs.Tokens.{Fine, done, lefts, rights, blanks, says}
use Rattle.kp_write.specs.Names.{IsSigned, IsEffect, IsOp, AreHeads, AreOps}
use Rattle.kp_law_texts.proofs.Public.{◌$◌, name_in_front_is_fine, keyword_in_front_is_fine, KeepsFine, each_keeps_fine}

-- ---- the parts of the files

fine_fact : (n : List ℕ) → IsHead n → KeepsFine (fact n)
unfolding class_of
fine_fact n h = record { keeps = λ f. lefts $ says h.token h.low refl $ rights f }

fine_fact_line : (n : List ℕ) → IsHead n → KeepsFine (fact_line n)
unfolding class_of
fine_fact_line n h = record { keeps = λ f. (fine_fact n h).keeps $ blanks refl f }

fine_signed_case : (b : Bool) (n : List ℕ) → IsHead n → KeepsFine (signed_case b n)
unfolding class_of
fine_signed_case true n h = fine_fact n h
fine_signed_case false n h = record { keeps = λ f. lefts $ name_in_front_is_fine refl refl refl $ blanks refl $ (fine_fact n h).keeps $ rights f }

fine_signed : (s : Signed) → IsSigned s → KeepsFine (signed s)
fine_signed s h = fine_signed_case s.holds s.fact h

ends_spaced : {T : Type 0} (f : T → Put) (xs : List T) (rest : List Piece) → EndsRunOf follows (spelling (each (spaced f) xs (right ∷ rest)))
unfolding class_of
ends_spaced f [] rest = refl
ends_spaced f (x ∷ xs) rest = refl

fine_spaced : {T : Type 0} (f : T → Put) (x : T) → KeepsFine (f x) → KeepsFine (spaced f x)
unfolding class_of
fine_spaced f x h = record { keeps = λ g. blanks refl (h.keeps g) }

fine_conjunction : {T : Type 0} (f : T → Put) (P : T → Type 0) → ((x : T) → P x → KeepsFine (f x)) → (xs : List T) → AllByRecursion P xs → KeepsFine (conjunction f xs)
unfolding class_of
fine_conjunction f P h xs all = record { keeps = λ {rest} g. lefts $ name_in_front_is_fine refl refl (ends_spaced f xs rest) $ (each_keeps_fine (spaced f) P (λ x p. fine_spaced f x (h x p)) xs all).keeps $ rights g }

fine_guarded : (cs : List Signed) (s : Signed) → AllByRecursion IsSigned cs → IsSigned s → KeepsFine (guarded cs s)
unfolding class_of
fine_guarded [] s all h = fine_signed s h
fine_guarded (c ∷ cs) s all h = record { keeps = λ f. lefts $ name_in_front_is_fine refl refl refl $ blanks refl $ (fine_conjunction signed IsSigned fine_signed (c ∷ cs) all).keeps $ blanks refl $ (fine_signed s h).keeps $ rights f }

fine_effect : (e : Effect) → IsEffect e → KeepsFine (effect_line e)
unfolding class_of
fine_effect e h = record { keeps = λ f. (fine_guarded e.conds e.result h.conds h.result).keeps $ blanks refl f }

fine_precondition : (ns : List (List ℕ)) → AreHeads ns → KeepsFine (precondition ns)
unfolding class_of
fine_precondition [] all = record { keeps = λ f. f }
fine_precondition (n ∷ ns) all = record { keeps = λ f. keyword_in_front_is_fine refl refl refl $ blanks refl $ (fine_conjunction fact IsHead fine_fact (n ∷ ns) all).keeps $ blanks refl f }

fine_op : (o : Op) → IsOp o → KeepsFine (op o)
unfolding op class_of
fine_op o h = record {
  keeps = λ f.
      lefts $ keyword_in_front_is_fine refl refl refl $ blanks refl $ says h.name.token h.name.low refl $ blanks refl
      $ keyword_in_front_is_fine refl refl refl $ blanks refl $ lefts $ rights $ blanks refl
      $ (fine_precondition o.pre h.pre).keeps
      $ keyword_in_front_is_fine refl refl refl $ blanks refl $ lefts $ name_in_front_is_fine refl refl refl $ blanks refl
      $ (each_keeps_fine effect_line IsEffect fine_effect o.effects h.effects).keeps
      $ rights $ blanks refl $ rights $ blanks refl f;
}

-- ---- the files

pub fine_domain : (facts : List (List ℕ)) (ops : List Op) → AreHeads facts → AreOps ops → Fine (domain_pieces facts ops)
unfolding domain_pieces class_of
fine_domain facts ops h k =
    lefts $ name_in_front_is_fine refl refl refl $ blanks refl $ lefts $ name_in_front_is_fine refl refl refl $ blanks refl $ name_in_front_is_fine refl refl refl $ rights $ blanks refl
    $ lefts $ keyword_in_front_is_fine refl refl refl $ blanks refl $ keyword_in_front_is_fine refl refl refl $ blanks refl $ keyword_in_front_is_fine refl refl refl $ blanks refl $ keyword_in_front_is_fine refl refl refl $ rights $ blanks refl
    $ lefts $ keyword_in_front_is_fine refl refl refl $ blanks refl
    $ (each_keeps_fine fact_line IsHead fine_fact_line facts h).keeps
    $ rights $ blanks refl
    $ (each_keeps_fine op IsOp fine_op ops k).keeps
    $ rights $ blanks refl done

pub fine_problem : (start goal : List (List ℕ)) → AreHeads start → AreHeads goal → Fine (problem_pieces start goal)
unfolding problem_pieces class_of
fine_problem start goal h k =
    lefts $ name_in_front_is_fine refl refl refl $ blanks refl $ lefts $ name_in_front_is_fine refl refl refl $ blanks refl $ name_in_front_is_fine refl refl refl $ rights $ blanks refl
    $ lefts $ keyword_in_front_is_fine refl refl refl $ blanks refl $ name_in_front_is_fine refl refl refl $ rights $ blanks refl
    $ lefts $ keyword_in_front_is_fine refl refl refl $ blanks refl
    $ (each_keeps_fine fact_line IsHead fine_fact_line start h).keeps
    $ rights $ blanks refl
    $ lefts $ keyword_in_front_is_fine refl refl refl $ blanks refl $ lefts $ name_in_front_is_fine refl refl refl $ blanks refl
    $ (each_keeps_fine fact_line IsHead fine_fact_line goal k).keeps
    $ rights $ rights $ blanks refl $ rights $ blanks refl done
