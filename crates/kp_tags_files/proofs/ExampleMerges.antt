-- An example: merges that can be written, their text, and that it reads back.
use Rattle.std.proofs.Common.{◌≡◌, true, false, [], ◌∷◌, refl, arith}
use Rattle.std.specs.Prelude.{codes}
use Rattle.std.specs.List.{IsDistinct}
use Rattle.kp_base.specs.declared.lit.Lit.{Lit}
use Rattle.kp_base.specs.declared.ground.GroundName.{GroundName}
use Rattle.kp_lex.specs.Bytes.{class_of}
use Rattle.kp_tree_grammar.specs.Symbols.{symbol_of}
use Rattle.kp_law_texts.proofs.Public.{spelled_name_is_token}
use Rattle.kp_tags_files.specs.declared.merge.FileMerge.{FileMerge}
use Rattle.kp_tags_files.specs.MergesFiles.{IsMergesOf}
use Rattle.kp_tags_files.specs.Printed.{CanBeWritten, IsAtomName, merges_text}
use Rattle.kp_tags_files.proofs.ReadsBack.{written_merges_read}

-- two atoms
abbrev p : GroundName
p = record { head = codes "p"; objects = [] }

abbrev at_b : GroundName
at_b = record { head = codes "at"; objects = codes "b" ∷ [] }

-- one merge, of a literal of each sign, with a tag of both atoms and an empty one
abbrev p_holds : Lit
p_holds = record { atom = record { 0 = 0 }; positive = true }

abbrev b_is_free : Lit
b_is_free = record { atom = record { 0 = 1 }; positive = false }

abbrev one_merge : FileMerge
one_merge = record { target = b_is_free; tags = (p_holds ∷ b_is_free ∷ []) ∷ [] ∷ [] }

p_is_name : IsAtomName p
unfolding symbol_of class_of
p_is_name = record { head = record { token = spelled_name_is_token (codes "p") refl; low = refl; head = refl }; objects = tt }

at_b_is_name : IsAtomName at_b
unfolding symbol_of class_of
at_b_is_name = record { head = record { token = spelled_name_is_token (codes "at") refl; low = refl; head = refl }; objects = (record { token = spelled_name_is_token (codes "b") refl; low = refl }, tt) }

can_be_written : CanBeWritten (p ∷ at_b ∷ []) (one_merge ∷ [])
unfolding IsDistinct
can_be_written = record {
  names = (p_is_name, (at_b_is_name, tt));
  differ = ((refl, tt), (tt, tt));
  merges = (
    record {
      target = record { below = omega arith };
      tags = (record { lits = (record { below = omega arith }, (record { below = omega arith }, tt)); ascending = (omega arith, tt) }, (record { lits = tt; ascending = tt }, tt));
    },
    tt,
  );
}

-- its text
text_is : merges_text (p ∷ at_b ∷ []) (one_merge ∷ []) ≡ codes "(merge (not (at b)) ((p) (not (at b))) ())\n"
text_is = refl

reads_back : IsMergesOf (p ∷ at_b ∷ []) (codes "(merge (not (at b)) ((p) (not (at b))) ())\n") (one_merge ∷ [])
reads_back = written_merges_read (p ∷ at_b ∷ []) (one_merge ∷ []) can_be_written
