use Rattle.px_ctypes.proofs.WrapLaws.{wrap_of_in_range, wrap-wrap, wrap-add_left, wrap-add_right, wrap-sub_left, wrap-sub_right, wrap-mul_left, wrap-mul_right}
use Rattle.px_ctypes.proofs.laws.wrapping_on_the_way.Goals as goal

pub returns-clause-kept : goal.returns-clause-kept
returns-clause-kept c = wrap_of_in_range

pub returns-clause-idempotent : goal.returns-clause-idempotent
returns-clause-idempotent c = wrap-wrap

pub returns-clause-add_left : goal.returns-clause-add_left
returns-clause-add_left c = wrap-add_left

pub returns-clause-add_right : goal.returns-clause-add_right
returns-clause-add_right c = wrap-add_right

pub returns-clause-sub_left : goal.returns-clause-sub_left
returns-clause-sub_left c = wrap-sub_left

pub returns-clause-sub_right : goal.returns-clause-sub_right
returns-clause-sub_right c = wrap-sub_right

pub returns-clause-mul_left : goal.returns-clause-mul_left
returns-clause-mul_left c = wrap-mul_left

pub returns-clause-mul_right : goal.returns-clause-mul_right
returns-clause-mul_right c = wrap-mul_right
