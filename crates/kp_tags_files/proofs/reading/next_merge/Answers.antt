use Rattle.kp_tags_files.proofs.reading.next_merge.Goals as goal

pub returns-clause-found : goal.returns-clause-found
returns-clause-found c = record { one = c.in_ok-merge.merge; stands = c.in_ok-merge.ensures.found; put = c.in_ok-push.ensures.ok }
