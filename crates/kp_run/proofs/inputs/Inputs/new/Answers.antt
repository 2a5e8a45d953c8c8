use Rattle.std.proofs.Common.{[], refl}
use Rattle.kp_run.proofs.Reading.{none_held}
use Rattle.kp_run.proofs.inputs.Inputs.new.Goals as goal

pub returns : goal.returns
returns c held asked = record {
  domain = record { text = []; is = refl; front = c.nothing.ensures };
  problem = record { text = []; is = refl; front = c.nothing-2.ensures };
  merges = record { texts = []; are = none_held held; fronts = tt };
  plan = record { text = []; is = refl; front = c.nothing-3.ensures };
  written = record { text = []; is = refl; front = c.nothing-4.ensures };
  texts = [];
  all_held = none_held held;
}
