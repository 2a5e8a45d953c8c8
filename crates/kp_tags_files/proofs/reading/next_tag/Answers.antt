use Rattle.kp_tags_files.proofs.reading.next_tag.Goals as goal

pub returns-clause-found : goal.returns-clause-found
returns-clause-found c = record { one = c.in_ok-tag.tag; stands = c.in_ok-tag.ensures.found; put = c.in_ok-push.ensures.ok }
