-- A form without blocks is the same form whatever the number of blocks that may stand round a token.
use Rattle.std.proofs.Common.{ℕ, None}
use Rattle.px_parser.specs.Shapes.{Mode, Shape}
use Rattle.px_parser.specs.StatementGrammar.{Exprs, Targets, LoopTargets, Augmented, Assignment, Augmentation, Return, Raise, Global, SimpleForm, Simple, Line, Decl, Decls, Declared, DeclareLine, GroupLine, DeclareGroup, Declare, LockWord}
use Rattle.px_parser.proofs.Shapely.{AtLeast, Rises, rises_name, rises_soft, rises_here, rises_gives, rises_seq, rises_placed, rises_either, rises_many, rises_listed, rises_of, rises_nested, rises_after, rises_before, rises_or, rises_maybe, rises_several, rises_separated, rises_elements}

-- in a wider mode it holds too
abbrev pub IsFlat : {A : Type 0} → Shape A → Type 0
IsFlat X = (mode other : Mode) (n m : ℕ) → AtLeast mode other → Rises X X mode other n m

pub flat_exprs : IsFlat Exprs
unfolding Exprs
flat_exprs mode other n m le = rises_of _ (rises_placed (rises_seq (rises_nested _ le) (rises_seq rises_here (rises_maybe (rises_after _ (rises_elements _ (rises_nested _ le)))))))

pub flat_targets : IsFlat Targets
unfolding Targets
flat_targets mode other n m le = rises_of _ (rises_placed (rises_seq (rises_nested _ le) (rises_seq rises_here (rises_maybe (rises_after _ (rises_elements _ (rises_nested _ le)))))))

pub flat_loop_targets : IsFlat LoopTargets
unfolding LoopTargets
flat_loop_targets mode other n m le = rises_of _ (rises_placed (rises_seq (rises_nested _ le) (rises_seq rises_here (rises_many (rises_after _ (rises_nested _ le))))))

flat_augmented : IsFlat Augmented
flat_augmented mode other n m le = record { rise = λ h. record { read = h.read; end = h.end } }

flat_assignment : IsFlat Assignment
unfolding Assignment
flat_assignment mode other n m le = rises_of _ (rises_seq (rises_many (rises_before _ (flat_targets mode other n m le))) (flat_exprs mode other n m le))

flat_augmentation : IsFlat Augmentation
unfolding Augmentation
flat_augmentation mode other n m le = rises_of _ (rises_seq (rises_nested _ le) (rises_seq (flat_augmented mode other n m le) (rises_nested _ le)))

flat_return : IsFlat Return
unfolding Return
flat_return mode other n m le = rises_after _ (rises_of _ (rises_maybe (flat_exprs mode other n m le)))

flat_raise : IsFlat Raise
unfolding Raise
flat_raise mode other n m le = rises_after _ (rises_of _ (rises_seq rises_name (rises_or None (rises_after _ (rises_before _ (rises_maybe (rises_nested _ le)))))))

flat_global : IsFlat Global
unfolding Global
flat_global mode other n m le = rises_after _ (rises_of _ (rises_separated _ rises_name))

flat_simple_form : IsFlat SimpleForm
unfolding SimpleForm
flat_simple_form mode other n m le =
    rises_either (rises_after _ (rises_gives _)) (rises_either (rises_after _ (rises_gives _)) (rises_either (rises_after _ (rises_gives _))
    (rises_either (flat_return mode other n m le) (rises_either (flat_raise mode other n m le) (rises_either (flat_global mode other n m le)
    (rises_either (flat_assignment mode other n m le) (flat_augmentation mode other n m le)))))))

pub flat_simple : IsFlat Simple
unfolding Simple
flat_simple mode other n m le = rises_of _ (rises_placed (rises_seq (flat_simple_form mode other n m le) rises_here))

pub flat_line : IsFlat Line
unfolding Line
flat_line mode other n m le = rises_before _ (rises_listed _ (flat_simple mode other n m le))

flat_declared : IsFlat Declared
unfolding Declared Decls Decl
flat_declared mode other n m le =
    rises_seq (rises_nested _ le)
    (rises_seq (rises_separated _ (rises_of _ (rises_seq rises_here (rises_placed (rises_seq rises_name (rises_maybe (rises_after _ (rises_nested _ le)))))))) (rises_before _ rises_here))

flat_declare_line : IsFlat DeclareLine
unfolding DeclareLine
flat_declare_line mode other n m le = rises_of _ (rises_seq rises_here (rises_placed (rises_after _ (flat_declared mode other n m le))))

flat_declare_group : IsFlat DeclareGroup
unfolding DeclareGroup GroupLine
flat_declare_group mode other n m le =
    rises_of _ (rises_placed (rises_after _ (rises_seq (rises_before _ rises_here) (rises_after _ (rises_after _ (rises_before _ (rises_several (rises_of _ (rises_placed (flat_declared mode other n m le))))))))))

pub flat_declare : IsFlat Declare
unfolding Declare
flat_declare mode other n m le = rises_either (flat_declare_line mode other n m le) (flat_declare_group mode other n m le)

pub flat_lock : IsFlat LockWord
unfolding LockWord
flat_lock mode other n m le = rises_either (rises_of _ (rises_soft _)) (rises_of _ (rises_soft _))
