-- The laws of kp_lift that proofs of other crates may cite. Each stands in the module that its line names.

-- ---- The operator of a step of the machine, by number, has the step's name.
pub use Rattle.kp_lift.proofs.Named.{operators_count as operators_are_counted, operators_steps as operators_are_steps, lifted_operators_steps as lifted_operators_are_steps}
