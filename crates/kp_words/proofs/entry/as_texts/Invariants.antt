use Rattle.std.proofs.Common.{◌≡◌, ◌↔◌, take, drop, map}
use Rattle.kp_words.specs.Command.{AreUtf8}
use Rattle.kp_words.proofs.entry.as_texts.Given as goal

abbrev pub invariant-loop-word : goal.invariant-loop-word
invariant-loop-word l = (map (λ s. s.now) l.found.items ≡ map (λ w. w.items) (take l.word-index l.words))
    × (AreUtf8 (map (λ w. w.items) (drop l.word-index l.words)) ↔ AreUtf8 (map (λ w. w.items) l.words))
