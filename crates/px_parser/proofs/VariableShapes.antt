-- Declarations of variables as shapes: each is sound, can begin anywhere, and is read in one way.
use Rattle.std.proofs.Common.{◌≡◌, ℕ, suc, Bool, ◌≤◌, ◌<◌, List, ◌∷◌, Option, inl, inr, refl, sym, ap, ap₂, subst, ◌∙◌, arith}
use Rattle.px_base.specs.declared.refusals.Span.{Span}
use Rattle.px_lexer.specs.declared.spelling.Keyword.TheVariants as word
use Rattle.px_lexer.specs.declared.spelling.Operator.TheVariants as sign
use Rattle.px_lexer.specs.declared.token_list.TokenKind.{TokenKind}
use Rattle.px_lexer.specs.declared.token_list.TokenKind.TheVariants as kind
use Rattle.px_tree.specs.declared.expressions.Expr.{Expr}
use Rattle.px_tree.specs.declared.typings.«Type».{«Type» as Typing}
use Rattle.px_tree.specs.declared.statements.Declaration.{Declaration}
use Rattle.px_tree.specs.declared.statements.Declarator.{Declarator}
use Rattle.px_tree.specs.declared.statements.Stmt.{Stmt}
use Rattle.px_lexer.specs.Terminals.{Terminal, HasKind, IsKeyword, IsOperator, IsName, IsAt}
use Rattle.px_exprs.specs.Codes.{code_at, Past}
use Rattle.px_exprs.specs.Readings.{Stops, Agree}
use Rattle.px_exprs.specs.Typings.{HasConst, IsTyping}
use Rattle.px_exprs.proofs.Agreement.{agree_back, agree_carried}
use Rattle.px_exprs.proofs.Codes.{code_here, name_code}
use Rattle.px_lexer.proofs.OneToken.{one_place}
use Rattle.px_exprs.proofs.Keeping.{place_carried}
use Rattle.px_exprs.proofs.Stops.{code_carried, kind_stops}
use Rattle.px_lexer.proofs.TokenAccess.{name_kind}
use Rattle.px_exprs.proofs.TypeReading.{base_forward}
use Rattle.px_parser.specs.Shapes.{Mode, Shape, Name, Here, Placed, Seq, Either, Many, After, Before, Maybe, Several, Nested}
use Rattle.px_parser.specs.Readings.{Anywhere}
use Rattle.px_parser.specs.Ends.{EndsDecl, EndsName, IsBefore}
use Rattle.px_parser.specs.StatementGrammar.{IsWithinLimit, Decl, Decls, Declared, DeclareLine, GroupLine, DeclareGroup, Declare}
use Rattle.px_parser.specs.ModuleGrammar.{Numbered}
use Rattle.px_parser.specs.Parts.{TypedName, DeclRest}
use Rattle.px_parser.proofs.Shapely.{Solid, Good, sound_seq, sound_name, sound_after, sound_here, good_name, good_here, good_seq, good_of, good_placed, good_either, good_many, good_after, good_before, good_maybe, good_several, good_separated}
use Rattle.px_parser.proofs.Onlies.{Leads, Clash, Only, leads_token, leads_seq, leads_here, leads_placed, leads_of, leads_after, leads_either, leads_gives, leads_many, leads_wider, leads_anywhere, only_name, only_here, only_placed, only_seq, only_of, only_many, only_after, only_before, only_maybe, only_narrower}
use Rattle.px_parser.proofs.Steps.{Alike}
use Rattle.px_parser.proofs.ExprShapes.{good_expr, only_expr}
use Rattle.px_parser.proofs.TypedNames.{good_typing, good_numbered, only_typed, base_names, numbered_parts, numbered_by}
use Rattle.px_parser.proofs.KindLaws.{solid_name, solid_front, solid_back, solid_placed, solid_of, solid_either, solid_after}

-- Tokens

abbrev pub IsEqual : Stops
IsEqual ts i = IsOperator ts i sign.Equal

abbrev pub IsComma : Stops
IsComma ts i = IsOperator ts i sign.Comma

pub equal_ends_no_decl : Clash IsEqual EndsDecl
equal_ends_no_decl ts us i agree equal (inl comma) = omega (arith, code_carried ts us i agree, code_here equal, code_here comma)
equal_ends_no_decl ts us i agree equal (inr line) = omega (arith, code_carried ts us i agree, code_here equal, code_here line)

pub decl_past : (ts : List Terminal) (i : ℕ) → EndsDecl ts i → Past 26 ts i
decl_past ts i (inl comma) = kind_stops comma (omega arith)
decl_past ts i (inr line) = kind_stops line (omega arith)

-- no identifier and no bracket
pub high_ends_name : (ts : List Terminal) (i : ℕ) → 11 ≤ code_at ts i → EndsName ts i
high_ends_name ts i high = (λ name h. omega (arith, name_code h, high), λ h. omega (arith, code_here h, high))

-- One variable

-- ['=' expr]
abbrev pub Value : Shape (Option Expr)
Value = Maybe (After (kind.Operator sign.Equal) IsWithinLimit)

pub good_value : Good Value
good_value = good_maybe (good_after _ good_expr)

pub only_value : Only Value EndsDecl
only_value = only_maybe (sound_after _ good_expr.sound) (only_after _ good_expr.sound (only_narrower only_expr decl_past)) (leads_after IsWithinLimit _ EndsDecl IsEqual (λ ts i h. h)) equal_ends_no_decl

ends_name_decl : (ts : List Terminal) (i : ℕ) → EndsDecl ts i → EndsName ts i
ends_name_decl ts i (inl comma) = high_ends_name ts i (omega (arith, code_here comma))
ends_name_decl ts i (inr line) = high_ends_name ts i (omega (arith, code_here line))

pub leads_value : Leads Value EndsDecl EndsName
leads_value = leads_either (leads_of _ (leads_after IsWithinLimit _ EndsDecl EndsName (λ ts i h. high_ends_name ts i (omega (arith, code_here h))))) (leads_gives _ ends_name_decl)

abbrev pub NamedValue : Shape (List ℕ × Option Expr)
NamedValue = Seq Name Value

pub good_named_value : Good NamedValue
good_named_value = good_seq good_name good_value

pub solid_named_value : Solid NamedValue
solid_named_value = solid_front solid_name good_value.sound

pub good_decl : Good Decl
unfolding Decl
good_decl = good_of _ (good_seq good_here (good_placed solid_named_value good_named_value))

pub only_decl : Only Decl EndsDecl
unfolding Decl
only_decl =
    let named : Only NamedValue EndsDecl = only_seq sound_name good_value.sound (only_name Anywhere) (leads_anywhere Value EndsDecl) only_value in
    let placed : Only (Placed NamedValue) EndsDecl = only_placed solid_named_value named in
    only_of _ (only_seq sound_here (good_placed solid_named_value good_named_value).sound (only_here Anywhere) (leads_anywhere (Placed NamedValue) EndsDecl) placed)

pub solid_decl : Solid Decl
unfolding Decl
solid_decl = solid_of _ (solid_back sound_here (solid_placed solid_named_value))

abbrev pub IsNameThere : Stops
IsNameThere ts i = HasKind ts i kind.Name

-- Several variables

abbrev pub MoreDecls : Shape (List Declarator)
MoreDecls = Many (After (kind.Operator sign.Comma) Decl)

pub good_more_decls : Good MoreDecls
good_more_decls = good_many (good_after _ good_decl)

pub leads_more : Leads (After (kind.Operator sign.Comma) Decl) Anywhere IsComma
leads_more = leads_after Decl _ Anywhere IsComma (λ ts i h. h)

pub comma_is_no_newline : Clash IsComma (IsBefore kind.Newline)
comma_is_no_newline ts us i agree comma line = omega (arith, code_carried ts us i agree, code_here comma, code_here line)

pub only_more : Only (After (kind.Operator sign.Comma) Decl) EndsDecl
only_more = only_after _ good_decl.sound only_decl

pub only_more_decls : Only MoreDecls (IsBefore kind.Newline)
only_more_decls = only_many (good_after _ good_decl).sound only_more leads_more comma_is_no_newline (λ ts i h. inl h) (λ ts i h. inr h)

pub leads_more_decls : Leads MoreDecls (IsBefore kind.Newline) EndsDecl
leads_more_decls = leads_many (leads_wider leads_more (λ ts i h. inl h)) (λ ts i h. inr h)

pub good_decls : Good Decls
unfolding Decls
good_decls = good_separated _ good_decl

pub solid_decls : Solid Decls
unfolding Decls
solid_decls = solid_of _ (solid_front solid_decl good_more_decls.sound)

-- The end of the line

-- NEWLINE, with its index
abbrev pub LineEnd : Shape ℕ
LineEnd = Before Here kind.Newline

pub good_line_end : Good LineEnd
good_line_end = good_before _ good_here

pub only_line_end : {S : Stops} → Only LineEnd S
only_line_end {S} = only_before kind.Newline S sound_here (only_here Anywhere) (λ ts i h. tt)

pub leads_line_end : {R : Stops} → Leads LineEnd R (IsBefore kind.Newline)
leads_line_end {R} = leads_of _ (leads_here (leads_token kind.Newline R (IsBefore kind.Newline) (λ ts i h. h)))

pub solid_line_end : Solid LineEnd
solid_line_end = record { grows = λ h. omega (arith, h.read.first.end, h.read.second.end) }

-- What stands behind the first name

abbrev pub MoreToEnd : Shape (List Declarator × ℕ)
MoreToEnd = Seq MoreDecls LineEnd

pub good_more_to_end : Good MoreToEnd
good_more_to_end = good_seq good_more_decls good_line_end

pub only_more_to_end : {S : Stops} → Only MoreToEnd S
only_more_to_end {S} = only_seq good_more_decls.sound good_line_end.sound only_more_decls leads_line_end only_line_end

pub leads_more_to_end : {R : Stops} → Leads MoreToEnd R EndsDecl
leads_more_to_end = leads_seq leads_more_decls leads_line_end

pub good_decl_rest : Good DeclRest
unfolding DeclRest
good_decl_rest = good_seq good_value good_more_to_end

pub only_decl_rest : {S : Stops} → Only DeclRest S
unfolding DeclRest
only_decl_rest {S} = only_seq good_value.sound good_more_to_end.sound only_value leads_more_to_end only_more_to_end

pub leads_decl_rest : {R : Stops} → Leads DeclRest R EndsName
unfolding DeclRest
leads_decl_rest = leads_seq leads_value leads_more_to_end

pub solid_decl_rest : Solid DeclRest
unfolding DeclRest
solid_decl_rest = solid_back good_value.sound (solid_back good_more_decls.sound solid_line_end)

-- A type, and variables

pub good_typed_name : Good TypedName
unfolding TypedName
good_typed_name = good_of _ (good_seq good_typing good_numbered)

pub only_typed_name : Only TypedName EndsName
unfolding TypedName
only_typed_name = only_of _ only_typed

const_begins : (ts : List Terminal) (i k : ℕ) {b : Bool} → HasConst ts i b k → ((i ≡ k) → IsNameThere ts i) → IsNameThere ts i
const_begins ts i k (HasConst.const w m e) plain = name_kind w
const_begins ts i k (HasConst.plain m e) plain = plain (sym e)

-- a type begins with an identifier
pub typing_begins_with_name : {ts : List Terminal} {i d j : ℕ} {t : Typing} → IsTyping ts i t d j → IsNameThere ts i
typing_begins_with_name {ts} {i} {d} {j} {t} h =
    let named = base_names ts h.base_from h.axes_from t.base h.base h.base_from (omega arith) (base_forward ts h.base_from h.axes_from t.base h.base) in
    const_begins ts i h.base_from h.const (λ e. subst (IsNameThere ts) (sym e) (name_kind named.1))

pub good_declared : Good Declared
unfolding Declared
good_declared = good_seq good_typing (good_seq good_decls good_line_end)

pub leads_declared : {R : Stops} → Leads Declared R IsNameThere
unfolding Declared
leads_declared = record { leads = λ h r. typing_begins_with_name h.first.read }

pub solid_declared : Solid Declared
unfolding Declared
solid_declared = solid_back good_typing.sound (solid_front solid_decls good_line_end.sound)

abbrev pub declarator_of : ℕ → Span → List ℕ → Option Expr → Declarator
declarator_of number at name value = record { number = number; at = at; name = name; value = value }

-- a declaration, as it is read: behind the first name stands the rest
pub record DeclaredParts (mode : Mode) (ts : List Terminal) (i : ℕ) (t : Typing × (List Declarator × ℕ)) (n j : ℕ) : Type 0 where
  pub middle : ℕ
  pub typing : Nested IsTyping mode ts i t.0 n middle
  pub at : Span
  pub name : List ℕ
  pub value : Option Expr
  pub others : List Declarator
  pub placed : IsAt ts middle at
  pub named : IsName ts middle name
  pub rest : DeclRest mode ts (suc middle) (value, (others, t.1.1)) n j
  pub tree : t.1.0 ≡ declarator_of middle at name value ∷ others

pub declared_opened : {mode : Mode} {ts : List Terminal} {i n j : ℕ} {t : Typing × (List Declarator × ℕ)} → Declared mode ts i t n j → DeclaredParts mode ts i t n j
unfolding Declared Decls Decl DeclRest
declared_opened {mode} {ts} {i} {n} {j} {t} h =
    let decls = h.second.first in
    let decl = decls.read.first in
    let placed = decl.read.second in
    let named = placed.second in
    let at = decl.inner.1.0 in
    let name = decl.inner.1.1.0 in
    let value = decl.inner.1.1.1 in
    let here : placed.middle ≡ h.middle = placed.first.end ∙ decl.read.first.end in
    record {
      middle = h.middle;
      typing = h.first;
      at = at;
      name = name;
      value = value;
      others = decls.inner.1;
      placed = subst (λ k. IsAt ts k at) decl.read.first.end placed.first.placed;
      named = subst (λ k. IsName ts k name) here named.first.stands;
      rest = record {
        middle = decls.read.middle;
        first = subst (λ k. Value mode ts k value n decls.read.middle) (named.first.end ∙ ap suc here) named.second;
        second = record { middle = h.second.middle; first = decls.read.second; second = h.second.second };
      };
      tree = decls.tree ∙ ap (λ d. d ∷ decls.inner.1) (decl.tree ∙ ap (λ k. declarator_of k at name value) decl.read.first.counted);
    }

pub declared_by : {mode : Mode} {ts : List Terminal} {i n j : ℕ} {t : Typing × (List Declarator × ℕ)} → DeclaredParts mode ts i t n j → Declared mode ts i t n j
unfolding Declared Decls Decl DeclRest
declared_by p = record {
  middle = p.middle;
  first = p.typing;
  second = record {
    middle = p.rest.second.middle;
    first = record {
      inner = (declarator_of p.middle p.at p.name p.value, p.others);
      read = record {
        middle = p.rest.middle;
        first = record {
          inner = (p.middle, (p.at, (p.name, p.value)));
          read = record {
            middle = p.middle;
            first = record { counted = refl; end = refl };
            second = record {
              middle = p.middle;
              first = record { placed = p.placed; end = refl };
              second = record { middle = suc p.middle; first = record { stands = p.named; end = refl }; second = p.rest.first };
            };
          };
          tree = refl;
        };
        second = p.rest.second.first;
      };
      tree = p.tree;
    };
    second = p.rest.second.second;
  };
}

-- the same with the name, and without its place
abbrev DeclaredNamed : Shape ((Typing × (ℕ × List ℕ)) × (Option Expr × (List Declarator × ℕ)))
DeclaredNamed = Seq (Seq (Nested IsTyping) Numbered) DeclRest

only_declared_named : {S : Stops} → Only DeclaredNamed S
only_declared_named = only_seq (sound_seq good_typing.sound good_numbered.sound) good_decl_rest.sound only_typed leads_decl_rest only_decl_rest

declared_named : {mode : Mode} {ts : List Terminal} {i n j : ℕ} {t : Typing × (List Declarator × ℕ)} → (p : DeclaredParts mode ts i t n j) → DeclaredNamed mode ts i ((t.0, (p.middle, p.name)), (p.value, (p.others, t.1.1))) n j
declared_named {mode} {ts} {n = n} p = record { middle = suc p.middle; first = record { middle = p.middle; first = p.typing; second = numbered_by mode ts p.middle n p.name p.named }; second = p.rest }

pub only_declared : {S : Stops} → Only Declared S
only_declared {S} = record {
  one = λ {mode} {other} {ts} {us} {i} {n} {m} {l} {j} {t} {u} g s h r agree sees sight.
      let a = declared_opened g in
      let b = declared_opened h in
      let named : Only DeclaredNamed S = only_declared_named in
      let same = named.one (declared_named a) s (declared_named b) r agree sees sight in
      let middle : a.middle ≡ b.middle = ap (λ p. p.0.1.0) same.0 in
      let inside : suc a.middle ≤ l = good_decl_rest.sound.forward a.rest in
      let placed : IsAt us b.middle a.at = subst (λ k. IsAt us k a.at) middle (place_carried (suc l) agree a.placed (omega (arith, inside))) in
      let at : a.at ≡ b.at = one_place placed b.placed in
      let name : a.name ≡ b.name = ap (λ p. p.0.1.1) same.0 in
      let value : a.value ≡ b.value = ap (λ p. p.1.0) same.0 in
      let others : a.others ≡ b.others = ap (λ p. p.1.1.0) same.0 in
      let here = ap₂ (λ x y. declarator_of x y a.name a.value) middle at in
      let said = ap₂ (λ x y. declarator_of b.middle b.at x y) name value in
      let first : declarator_of a.middle a.at a.name a.value ≡ declarator_of b.middle b.at b.name b.value = here ∙ said in
      let names : t.1.0 ≡ u.1.0 = a.tree ∙ ap₂ (λ x y. x ∷ y) first others ∙ sym b.tree in
      let end : t.1.1 ≡ u.1.1 = ap (λ p. p.1.1.1) same.0 in
      let rest : t.1 ≡ u.1 = ap₂ (λ x y. (x, y)) names end in
      (ap₂ (λ x y. (x, y)) (ap (λ p. p.0.0) same.0) rest, same.1);
}

-- A declaration that is read from its type and its first name on

abbrev pub DeclaredRead : Shape ((Typing × ℕ) × (Option Expr × (List Declarator × ℕ)))
DeclaredRead = Seq TypedName DeclRest

pub good_declared_read : Good DeclaredRead
good_declared_read = good_seq good_typed_name good_decl_rest

pub record TypedParts (mode : Mode) (ts : List Terminal) (i : ℕ) (p : Typing × ℕ) (n j : ℕ) : Type 0 where
  pub middle : ℕ
  pub typing : Nested IsTyping mode ts i p.0 n middle
  pub name : List ℕ
  pub named : IsName ts middle name
  pub counted : p.1 ≡ middle
  pub end : j ≡ suc middle

pub typed_opened : {mode : Mode} {ts : List Terminal} {i n j : ℕ} {p : Typing × ℕ} → TypedName mode ts i p n j → TypedParts mode ts i p n j
unfolding TypedName
typed_opened {mode} {ts} {i} {n} {j} {p} h =
    let parts = numbered_parts mode ts h.read.middle n j h.inner.1 h.read.second in
    record {
      middle = h.read.middle;
      typing = subst (λ y. Nested IsTyping mode ts i y n h.read.middle) (sym (ap (λ x. x.0) h.tree)) h.read.first;
      name = h.inner.1.1;
      named = parts.1;
      counted = ap (λ x. x.1) h.tree ∙ parts.0;
      end = parts.2;
    }

typed_by : {mode : Mode} {ts : List Terminal} {i n k : ℕ} {t : Typing} {name : List ℕ} → Nested IsTyping mode ts i t n k → IsName ts k name → TypedName mode ts i (t, k) n (suc k)
unfolding TypedName
typed_by {mode} {ts} {i} {n} {k} {t} {name} typing named = record { inner = (t, (k, name)); read = record { middle = k; first = typing; second = numbered_by mode ts k n name named }; tree = refl }

pub declared_made : (mode : Mode) (ts : List Terminal) (i n k j : ℕ) (p : Typing × ℕ) (r : Option Expr × (List Declarator × ℕ)) (at : Span) (name : List ℕ) → TypedName mode ts i p n k → DeclRest mode ts k r n j → IsAt ts p.1 at → IsName ts p.1 name
    → Declared mode ts i (p.0, (declarator_of p.1 at name r.0 ∷ r.1.0, r.1.1)) n j
declared_made mode ts i n k j p r at name typed rest placed named =
    let a = typed_opened typed in
    declared_by (record {
      middle = a.middle;
      typing = a.typing;
      at = at;
      name = name;
      value = r.0;
      others = r.1.0;
      placed = subst (λ x. IsAt ts x at) a.counted placed;
      named = subst (λ x. IsName ts x name) a.counted named;
      rest = subst (λ x. DeclRest mode ts x r n j) a.end rest;
      tree = ap (λ x. declarator_of x at name r.0 ∷ r.1.0) a.counted;
    })

pub alike_declared : Alike DeclaredRead Declared
alike_declared = record {
  there = λ {mode} {ts} {i} {n} {j} {t} h.
      let a = typed_opened h.first in
      let named : IsName ts t.0.1 a.name = subst (λ x. IsName ts x a.name) (sym a.counted) a.named in
      (_, declared_made mode ts i n h.middle j t.0 t.1 named.token.at a.name h.first h.second (record { token = named.token; stands = named.stands; placed = refl }) named);
  back = λ {mode} {ts} {i} {n} {j} {u} h.
      let a = declared_opened h in
      (((u.0, a.middle), (a.value, (a.others, u.1.1))), record { middle = suc a.middle; first = typed_by a.typing a.named; second = a.rest });
}

-- Lines

-- a token and what stands behind it
pub placed_after : {A : Type 0} {X : Shape A} {k : TokenKind} {mode : Mode} {ts : List Terminal} {i n j : ℕ} {t : Span × A} → Placed (After k X) mode ts i t n j → HasKind ts i k × ((a : A) × X mode ts (suc i) a n j)
placed_after {X = X} {k} {mode} {ts} {i} {n} {j} {t} h =
    let token = h.second.read.first in
    let there : HasKind ts i k = subst (λ m. HasKind ts m k) h.first.end token.stands in
    (there, (h.second.inner.1, subst (λ m. X mode ts m h.second.inner.1 n j) (token.end ∙ ap suc h.first.end) h.second.read.second))

abbrev pub IsCdef : Stops
IsCdef ts i = IsKeyword ts i word.Cdef

pub solid_cdef_declared : Solid (After (kind.Keyword word.Cdef) Declared)
solid_cdef_declared = solid_after _ good_declared.sound

pub good_cdef_declared : Good (After (kind.Keyword word.Cdef) Declared)
good_cdef_declared = good_after _ good_declared

pub good_declare_line : Good DeclareLine
unfolding DeclareLine
good_declare_line = good_of _ (good_seq good_here (good_placed solid_cdef_declared good_cdef_declared))

pub only_declare_line : {S : Stops} → Only DeclareLine S
unfolding DeclareLine
only_declare_line {S} =
    let declared : Only Declared S = only_declared in
    let placed : Only (Placed (After (kind.Keyword word.Cdef) Declared)) S = only_placed solid_cdef_declared (only_after _ good_declared.sound declared) in
    only_of _ (only_seq sound_here (good_placed solid_cdef_declared good_cdef_declared).sound (only_here Anywhere) (leads_anywhere _ S) placed)

-- the index of a form
pub behind_here : {A : Type 0} {X : Shape A} {mode : Mode} {ts : List Terminal} {i n j : ℕ} {t : ℕ × A} → Seq Here X mode ts i t n j → X mode ts i t.1 n j
behind_here {X = X} {mode} {ts} {i} {n} {j} {t} h = subst (λ k. X mode ts k t.1 n j) h.first.end h.second

pub solid_here : {A : Type 0} {X : Shape A} → Solid X → Solid (Seq Here X)
solid_here x = record { grows = λ h. x.grows (behind_here h) }

pub solid_declare_line : Solid DeclareLine
unfolding DeclareLine
solid_declare_line = solid_of _ (solid_here (solid_placed solid_cdef_declared))

-- it begins with `cdef` and a type
pub declare_line_begins : (mode : Mode) (ts : List Terminal) (i n j : ℕ) (t : Stmt) → DeclareLine mode ts i t n j → IsCdef ts i × IsNameThere ts (suc i) × (suc i < j)
unfolding DeclareLine
declare_line_begins mode ts i n j t h =
    let parts = placed_after (behind_here h.read) in
    let leads : Leads Declared Anywhere IsNameThere = leads_declared in
    (parts.0, leads.leads parts.1.1 tt, solid_declared.grows parts.1.1)

-- The lines of a group

pub good_group_line : Good GroupLine
unfolding GroupLine
good_group_line = good_of _ (good_placed solid_declared good_declared)

pub only_group_line : {S : Stops} → Only GroupLine S
unfolding GroupLine
only_group_line {S} =
    let declared : Only Declared S = only_declared in
    only_of _ (only_placed solid_declared declared)

pub leads_group_line : {R : Stops} → Leads GroupLine R IsNameThere
unfolding GroupLine
leads_group_line = leads_of _ (leads_placed leads_declared)

abbrev pub GroupLines : Shape (List Declaration)
GroupLines = Several GroupLine

pub good_more_lines : Good (Many GroupLine)
good_more_lines = good_many good_group_line

pub good_group_lines : Good GroupLines
good_group_lines = good_several good_group_line

pub name_is_no_dedent : Clash IsNameThere (IsBefore kind.Dedent)
name_is_no_dedent ts us i agree name dedent = omega (arith, code_carried ts us i agree, code_here name, code_here dedent)

pub only_more_lines : Only (Many GroupLine) (IsBefore kind.Dedent)
only_more_lines =
    let line : Only GroupLine Anywhere = only_group_line in
    only_many good_group_line.sound line leads_group_line name_is_no_dedent (λ ts i h. tt) (λ ts i h. tt)

pub only_group_lines : Only GroupLines (IsBefore kind.Dedent)
only_group_lines =
    let line : Only GroupLine Anywhere = only_group_line in
    only_of _ (only_seq good_group_line.sound good_more_lines.sound line (leads_anywhere (Many GroupLine) (IsBefore kind.Dedent)) only_more_lines)

-- A group

abbrev pub ToDedent : Shape (List Declaration)
ToDedent = Before GroupLines kind.Dedent

abbrev pub FromIndent : Shape (List Declaration)
FromIndent = After kind.Indent ToDedent

abbrev pub FromNewline : Shape (List Declaration)
FromNewline = After kind.Newline FromIndent

-- ':', with its index
abbrev pub ColonHere : Shape ℕ
ColonHere = Before Here (kind.Operator sign.Colon)

abbrev pub FromColon : Shape (ℕ × List Declaration)
FromColon = Seq ColonHere FromNewline

abbrev pub CdefGroup : Shape (ℕ × List Declaration)
CdefGroup = After (kind.Keyword word.Cdef) FromColon

pub good_to_dedent : Good ToDedent
good_to_dedent = good_before _ good_group_lines

pub only_to_dedent : {S : Stops} → Only ToDedent S
only_to_dedent {S} = only_before kind.Dedent S good_group_lines.sound only_group_lines (λ ts i h. h)

pub good_from_indent : Good FromIndent
good_from_indent = good_after _ good_to_dedent

pub good_from_newline : Good FromNewline
good_from_newline = good_after _ good_from_indent

pub only_from_newline : {S : Stops} → Only FromNewline S
only_from_newline {S} =
    let dedent : Only ToDedent S = only_to_dedent in
    only_after _ good_from_indent.sound (only_after _ good_to_dedent.sound dedent)

pub good_colon_here : Good ColonHere
good_colon_here = good_before _ good_here

pub only_colon_here : {S : Stops} → Only ColonHere S
only_colon_here {S} = only_before (kind.Operator sign.Colon) S sound_here (only_here Anywhere) (λ ts i h. tt)

pub good_from_colon : Good FromColon
good_from_colon = good_seq good_colon_here good_from_newline

pub only_from_colon : {S : Stops} → Only FromColon S
only_from_colon {S} =
    let colon : Only ColonHere Anywhere = only_colon_here in
    let newline : Only FromNewline S = only_from_newline in
    only_seq good_colon_here.sound good_from_newline.sound colon (leads_anywhere FromNewline S) newline

pub good_cdef_group : Good CdefGroup
good_cdef_group = good_after _ good_from_colon

pub solid_cdef_group : Solid CdefGroup
solid_cdef_group = solid_after _ good_from_colon.sound

pub good_declare_group : Good DeclareGroup
unfolding DeclareGroup
good_declare_group = good_of _ (good_placed solid_cdef_group good_cdef_group)

pub only_declare_group : {S : Stops} → Only DeclareGroup S
unfolding DeclareGroup
only_declare_group {S} =
    let colon : Only FromColon S = only_from_colon in
    only_of _ (only_placed solid_cdef_group (only_after _ good_from_colon.sound colon))

pub solid_declare_group : Solid DeclareGroup
unfolding DeclareGroup
solid_declare_group = solid_of _ (solid_placed solid_cdef_group)

-- it begins with `cdef` and a colon
pub declare_group_begins : (mode : Mode) (ts : List Terminal) (i n j : ℕ) (t : Stmt) → DeclareGroup mode ts i t n j → IsCdef ts i × IsOperator ts (suc i) sign.Colon × (suc i < j)
unfolding DeclareGroup
declare_group_begins mode ts i n j t h =
    let parts = placed_after h.read in
    let colon = parts.1.1.first.read in
    (parts.0, subst (λ k. IsOperator ts k sign.Colon) colon.first.end colon.second.stands, omega (arith, colon.first.end, colon.second.end, good_from_newline.sound.forward parts.1.1.second))

-- Declarations

pub good_declare : Good Declare
unfolding Declare
good_declare = good_either good_declare_line good_declare_group

pub solid_declare : Solid Declare
unfolding Declare
solid_declare = solid_either solid_declare_line solid_declare_group

name_is_no_colon : (ts us : List Terminal) (i : ℕ) → Agree (suc i) us ts → IsNameThere ts i → IsOperator us i sign.Colon → ⊥
name_is_no_colon ts us i agree name colon = omega (arith, code_carried ts us i agree, code_here name, code_here colon)

pub only_declare : {S : Stops} → Only Declare S
unfolding Declare
only_declare {S} = record {
  one = λ {mode} {other} {ts} {us} {i} {n} {m} {l} {j} {t} {u} g s h r agree sees sight. elim (g) [
    | Either.left a ↦ (elim (h) [
      | Either.left b ↦ (let line : Only DeclareLine S = only_declare_line in line.one a s b r agree sees sight)
      | Either.right b ↦ (
          let begun = declare_line_begins mode ts i n l t a in
          absurd (name_is_no_colon ts us (suc i) (agree_carried us ts agree (omega (arith, begun.2))) begun.1 (declare_group_begins other us i m j u b).1))
    ])
    | Either.right a ↦ (elim (h) [
      | Either.left b ↦ (
          let begun = declare_group_begins mode ts i n l t a in
          absurd (name_is_no_colon us ts (suc i) (agree_back us ts (agree_carried us ts agree (omega (arith, begun.2)))) (declare_line_begins other us i m j u b).1 begun.1))
      | Either.right b ↦ (let group : Only DeclareGroup S = only_declare_group in group.one a s b r agree sees sight)
    ])
  ];
}

pub leads_declare : {R : Stops} → Leads Declare R IsCdef
unfolding Declare
leads_declare = record {
  leads = λ {mode} {ts} {i} {n} {j} {t} h r. elim (h) [
    | Either.left a ↦ (declare_line_begins mode ts i n j t a).0
    | Either.right b ↦ (declare_group_begins mode ts i n j t b).0
  ];
}
