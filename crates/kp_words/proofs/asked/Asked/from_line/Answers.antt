use Rattle.kp_words.proofs.asked.Asked.from_line.Goals as goal

-- the mode says nothing
pub returns-in_err-mode : goal.returns-in_err-mode
returns-in_err-mode c = rw c.from_residual-in_err-mode.ensures (λ d are. c.in_err-mode.ensures d.mode are.are_asked.source.mode are.are_asked.source.one_source)

-- or one of the numbers
pub returns-in_err-implicates : goal.returns-in_err-implicates
returns-in_err-implicates c = rw c.from_residual-in_err-implicates.ensures (λ d are. c.in_err-implicates.ensures d.implicates d.budget d.bound are.are_asked.numbers.implicates are.are_asked.numbers.budget are.are_asked.numbers.bound)
