use Rattle.std.proofs.Common.{◌∙◌, Some, map, option_map, sym}
use Rattle.clap.specs.Words.{found_of, first_value}
use Rattle.kp_words_options.specs.Texts.{texts}
use Rattle.kp_words_options.proofs.LineOf.{length_texts, line, line_given, none_missing, not_read, other_count, same_length, suits_line, taken}
use Rattle.kp_words_options.proofs.assign.line_of.Goals as goal

-- the words aren't read
pub returns-in_default-clause-err : goal.returns-in_default-clause-err
returns-in_default-clause-err c _ places values count said =
    not_read c.args.name.now c.args.ids.now c.args.options.now c.args.words.now c.requires (sym c.in_ok-count.ensures ∙ c.in_default.is) said.said
    (suits_line (texts c.args.ids.now) _ _ places values said (count ∙ sym (length_texts c.args.ids.now)))

-- there are more or fewer positional words
pub returns-then-count-ids-clause-err : goal.returns-then-count-ids-clause-err
returns-then-count-ids-clause-err c _ places values count said =
    other_count c.args.name.now c.args.ids.now c.args.options.now c.args.words.now c.requires c.in-Some.count (sym c.in_ok-count.ensures ∙ c.in-Some.is)
    (λ same. c.if-count-ids.true (same ∙ length_texts c.args.ids.now)) said.said
    (suits_line (texts c.args.ids.now) _ _ places values said (count ∙ sym (length_texts c.args.ids.now)))

-- `clap` takes the words
pub parsed-requires : goal.parsed-requires
parsed-requires c =
    taken c.args.name.now c.args.ids.now c.args.options.now c.args.words.now c.requires c.in-Some.count (sym c.in_ok-count.ensures ∙ c.in-Some.is)
    (c.if-count-ids.false ∙ sym (length_texts c.args.ids.now))

-- and finds each place
pub given_by-requires : goal.given_by-requires
given_by-requires c =
    none_missing c.args.name.now c.args.ids.now c.args.options.now c.args.words.now c.requires (found_of c.in_ok-matches.matches) (c.in_ok-matches.ensures c.requires.simple)
    c.in-Some.count (sym c.in_ok-count.ensures ∙ c.in-Some.is) (c.if-count-ids.false ∙ sym (length_texts c.args.ids.now))

-- what is found is a line
pub returns-clause-ok : goal.returns-clause-ok
returns-clause-ok c =
    line_given (texts c.args.ids.now) (texts c.args.options.now) (texts c.args.words.now) (texts c.in_ok-given.given.places.items) (map (option_map (λ s. s.now)) c.in_ok-given.given.values.items)
    (line c.args.name.now c.args.ids.now c.args.options.now c.args.words.now c.requires (found_of c.in_ok-matches.matches) (c.in_ok-matches.ensures c.requires.simple)
    c.in-Some.count (sym c.in_ok-count.ensures ∙ c.in-Some.is) (c.if-count-ids.false ∙ sym (length_texts c.args.ids.now))
    c.in_ok-given.given.places.items (map (option_map (λ s. s.now)) c.in_ok-given.given.values.items) c.in_ok-given.ensures.places c.in_ok-given.ensures.values)

-- as many places as there are names
pub returns-clause-places : goal.returns-clause-places
returns-clause-places c = same_length (λ p. Some p.now) (λ id. first_value (found_of c.in_ok-matches.matches) id.now) c.in_ok-given.given.places.items c.args.ids.now c.in_ok-given.ensures.places
