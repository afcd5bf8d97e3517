use Rattle.std.proofs.Common.{◌≡◌, SFits, rules, refl, sym, ap, ◌∙◌}
use Rattle.std.specs.Int.{w128}
use Rattle.std.proofs.lemmas.Int.{to_z-of_z}
use Rattle.std.proofs.lemmas.Bool.{false≢true}
use Rattle.px_regcode.specs.declared.instructions.Instr.{Instr}
use Rattle.px_regcode.specs.declared.instructions.Instr.TheVariants as instr
use Rattle.px_machine.specs.Running.{is_run}
use Rattle.px_member.proofs.Runs.{arithmetic, done_by, none_given}
use Rattle.px_member.proofs.member.Member.act.Goals as goal

pub binary-requires-clause-arithmetic : goal.binary-requires-clause-arithmetic
unfolding is_run
binary-requires-clause-arithmetic c = arithmetic _ (ap is_run (sym c.in-Binary.is) ∙ c.requires.run)

pub unary-requires-clause-arithmetic : goal.unary-requires-clause-arithmetic
unfolding is_run
unary-requires-clause-arithmetic c = arithmetic _ (ap is_run (sym c.in-Unary.is) ∙ c.requires.run)

pub magnitude-requires-clause-arithmetic : goal.magnitude-requires-clause-arithmetic
unfolding is_run
magnitude-requires-clause-arithmetic c = arithmetic _ (ap is_run (sym c.in-Magnitude.is) ∙ c.requires.run)

pub returns-in-Const-clause-did : goal.returns-in-Const-clause-did
returns-in-Const-clause-did c = λ m h u.
    let fits : SFits w128 c.in-Const.n = search rules in
    let is = c.in-Const.is ∙ ap (instr.Const c.in-Const.d) (sym (to_z-of_z w128 c.in-Const.n fits)) in
    done_by c.args.image.now _ _ is _ _ _ m h u (c.constant.ensures.did c.args.image.now)

pub returns-in-Call-clause-did : goal.returns-in-Call-clause-did
unfolding is_run
returns-in-Call-clause-did c = λ m h u.
    let none = none_given _ (ap is_run (sym c.in-Call.is) ∙ c.requires.run) in
    let is = c.in-Call.is ∙ ap (instr.Call c.in-Call.f c.in-Call.d) none in
    done_by c.args.image.now _ _ is _ _ _ m h u c.call.ensures.did

pub returns-in_default : goal.returns-in_default
unfolding is_run
returns-in_default c = absurd (none_left c.args.instr.now refl)
  where
    none_left : (i : Instr) → c.args.instr.now ≡ i → ⊥
    none_left (instr.Const d n) same = c.in_default.not-Const d n same
    none_left (instr.Move d a) same = c.in_default.not-Move d a same
    none_left (instr.Binary op t d a b truncates) same = c.in_default.not-Binary op t d a b truncates same
    none_left (instr.Unary op t d a) same = c.in_default.not-Unary op t d a same
    none_left (instr.Compare op t d a b) same = c.in_default.not-Compare op t d a b same
    none_left (instr.Convert t d a) same = c.in_default.not-Convert t d a same
    none_left (instr.Magnitude t d a) same = c.in_default.not-Magnitude t d a same
    none_left (instr.Jump k) same = c.in_default.not-Jump k same
    none_left (instr.Branch a k j) same = c.in_default.not-Branch a k j same
    none_left instr.Turn same = c.in_default.not-Turn same
    none_left (instr.Call f d arguments) same = c.in_default.not-Call f d arguments same
    none_left (instr.Return a) same = c.in_default.not-Return a same
    none_left instr.Finish same = c.in_default.not-Finish same
    none_left (instr.Handle k) same = c.in_default.not-Handle k same
    none_left instr.Unhandle same = c.in_default.not-Unhandle same
    none_left instr.Throw same = c.in_default.not-Throw same
    none_left (instr.Caught d) same = c.in_default.not-Caught d same
    none_left (instr.Takes a kinds k) same = false≢true (ap is_run (sym same) ∙ c.requires.run)
    none_left (instr.Forget a) same = c.in_default.not-Forget a same
    none_left (instr.Unset d) same = c.in_default.not-Unset d same
    none_left (instr.Need a) same = c.in_default.not-Need a same
    none_left (instr.Element t d a indices) same = false≢true (ap is_run (sym same) ∙ c.requires.run)
    none_left (instr.Put t a indices b) same = false≢true (ap is_run (sym same) ∙ c.requires.run)
    none_left (instr.Pick d a axis i wraps) same = false≢true (ap is_run (sym same) ∙ c.requires.run)
    none_left (instr.Slice d a axis b up e) same = false≢true (ap is_run (sym same) ∙ c.requires.run)
    none_left (instr.Axis d a n) same = false≢true (ap is_run (sym same) ∙ c.requires.run)
    none_left (instr.Turned d a) same = false≢true (ap is_run (sym same) ∙ c.requires.run)
    none_left (instr.Extent d a axis) same = false≢true (ap is_run (sym same) ∙ c.requires.run)
    none_left (instr.Ordered a order) same = false≢true (ap is_run (sym same) ∙ c.requires.run)
    none_left (instr.Acquire a) same = false≢true (ap is_run (sym same) ∙ c.requires.run)
    none_left (instr.Release a) same = false≢true (ap is_run (sym same) ∙ c.requires.run)
    none_left (instr.Fill a b) same = false≢true (ap is_run (sym same) ∙ c.requires.run)
    none_left (instr.Spread d a) same = false≢true (ap is_run (sym same) ∙ c.requires.run)
    none_left instr.Ticket same = false≢true (ap is_run (sym same) ∙ c.requires.run)
    none_left instr.Enter same = false≢true (ap is_run (sym same) ∙ c.requires.run)
    none_left instr.Leave same = false≢true (ap is_run (sym same) ∙ c.requires.run)
    none_left (instr.Loop n d k) same = false≢true (ap is_run (sym same) ∙ c.requires.run)
    none_left instr.Look same = false≢true (ap is_run (sym same) ∙ c.requires.run)
    none_left instr.Claim same = false≢true (ap is_run (sym same) ∙ c.requires.run)
    none_left instr.Begin same = false≢true (ap is_run (sym same) ∙ c.requires.run)
    none_left instr.End same = false≢true (ap is_run (sym same) ∙ c.requires.run)
    none_left (instr.Stop kind a) same = false≢true (ap is_run (sym same) ∙ c.requires.run)
    none_left (instr.Reduce op t x a) same = false≢true (ap is_run (sym same) ∙ c.requires.run)
    none_left (instr.Members d) same = c.in_default.not-Members d same
    none_left (instr.Text d n) same = c.in_default.not-Text d n same
    none_left (instr.Wide d n) same = c.in_default.not-Wide d n same
    none_left (instr.Box t d a) same = c.in_default.not-Box t d a same
    none_left (instr.Unbox t d a) same = false≢true (ap is_run (sym same) ∙ c.requires.run)
    none_left (instr.Truth d a) same = false≢true (ap is_run (sym same) ∙ c.requires.run)
    none_left (instr.Fetch d n) same = false≢true (ap is_run (sym same) ∙ c.requires.run)
    none_left (instr.Keep n a) same = false≢true (ap is_run (sym same) ∙ c.requires.run)
    none_left (instr.Share d a) same = c.in_default.not-Share d a same
    none_left (instr.Drop a) same = c.in_default.not-Drop a same
    none_left (instr.ObjectBinary op d a b) same = false≢true (ap is_run (sym same) ∙ c.requires.run)
    none_left (instr.ObjectUnary op d a) same = false≢true (ap is_run (sym same) ∙ c.requires.run)
    none_left (instr.ObjectCompare op d a b) same = false≢true (ap is_run (sym same) ∙ c.requires.run)
    none_left (instr.ObjectIn d a b) same = false≢true (ap is_run (sym same) ∙ c.requires.run)
    none_left (instr.ObjectGet d a b) same = false≢true (ap is_run (sym same) ∙ c.requires.run)
    none_left (instr.ObjectSet a b up) same = false≢true (ap is_run (sym same) ∙ c.requires.run)
    none_left (instr.ObjectCut d a b up e) same = false≢true (ap is_run (sym same) ∙ c.requires.run)
    none_left (instr.List d arguments) same = false≢true (ap is_run (sym same) ∙ c.requires.run)
    none_left (instr.Tuple d arguments) same = false≢true (ap is_run (sym same) ∙ c.requires.run)
    none_left (instr.Dict d arguments) same = false≢true (ap is_run (sym same) ∙ c.requires.run)
    none_left (instr.Unpack n a items) same = false≢true (ap is_run (sym same) ∙ c.requires.run)
    none_left (instr.Method m d a arguments) same = false≢true (ap is_run (sym same) ∙ c.requires.run)
    none_left (instr.Builtin m d arguments) same = false≢true (ap is_run (sym same) ∙ c.requires.run)
    none_left (instr.Print arguments) same = c.in_default.not-Print arguments same
    none_left (instr.Input d arguments) same = false≢true (ap is_run (sym same) ∙ c.requires.run)
    none_left (instr.Raise kind a) same = false≢true (ap is_run (sym same) ∙ c.requires.run)
    none_left (instr.Walk d x a) same = false≢true (ap is_run (sym same) ∙ c.requires.run)
    none_left (instr.Next d a x k) same = false≢true (ap is_run (sym same) ∙ c.requires.run)
    none_left (instr.Array d arguments) same = false≢true (ap is_run (sym same) ∙ c.requires.run)
    none_left (instr.View t d a rank) same = false≢true (ap is_run (sym same) ∙ c.requires.run)
    none_left (instr.Copy d a) same = false≢true (ap is_run (sym same) ∙ c.requires.run)
    none_left (instr.Said d a) same = false≢true (ap is_run (sym same) ∙ c.requires.run)
    none_left (instr.Rethrow a) same = false≢true (ap is_run (sym same) ∙ c.requires.run)
