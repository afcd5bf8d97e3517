-- What the phase of types answers: for a module with a form that isn't built its place, and else its types.
use Rattle.std.specs.Prelude.{Option, Some, None, Err}
use Rattle.px_base.specs.declared.refusals.Refusal.{Refusal}
use Rattle.px_names.specs.declared.named.Named.{Named}
use Rattle.px_operators.specs.Outcomes.{Outcome}
use Rattle.px_types.specs.TypedModule.{ModuleTypes, module_types}
use Rattle.px_environments.specs.BuiltForms.{unbuilt_in}

abbrev pub types_unless : Option Refusal → Named → Outcome ModuleTypes
types_unless None named = module_types named
types_unless (Some refusal) named = Err refusal

abbrev pub types_of : Named → Outcome ModuleTypes
types_of named = types_unless (unbuilt_in named) named
