-- The problem by number as plain data, as `kp_names_numbered` sees it.
pub use Rattle.kp_names_numbered.specs.View.{conds_of, effs_of, cond_step, cond_view, eff_step, eff_view, schema_view, lifted_view}
