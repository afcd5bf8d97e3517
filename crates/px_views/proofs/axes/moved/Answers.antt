-- What is found in words is the place modulo 2^64, which is the place where there is one.
use Rattle.std.proofs.Common.{◌≡◌, ◌+◌, ◌*◌, ◌%◌, ◌^◌, ◌∙◌, ap, w64}
use Rattle.std.specs.Int.{cast_unsigned}
use Rattle.std.proofs.lemmas.Int.{to_z-of_z}
use Rattle.px_views.specs.Strides.{wrapped_place}
use Rattle.px_views.proofs.Numbers.{exact, wrapped}
use Rattle.px_views.proofs.axes.moved.Goals as goal
use Rattle.px_views.proofs.axes.moved.Goals.{After-cast_unsigned}

found : (c : After-cast_unsigned)
    → (c.args.from + (c.args.steps * c.cast_unsigned.result) % 2 ^ 64) % 2 ^ 64 ≡ wrapped_place c.args.from c.args.steps c.args.stride
found c =
    ap (λ n. (c.args.from + (c.args.steps * n) % 2 ^ 64) % 2 ^ 64)
    (c.cast_unsigned.ensures ∙ ap (cast_unsigned w64) (to_z-of_z w64 c.args.stride c.ranges.stride))
    ∙ wrapped c.args.from c.args.steps c.args.stride c.ranges.stride

pub returns-clause-value : goal.returns-clause-value
returns-clause-value c = found c

pub returns-clause-exact : goal.returns-clause-exact
returns-clause-exact c place small is = found c ∙ exact c.args.from c.args.steps place c.args.stride small is
