-- Tokens are one module, or are refused in one way.
use Rattle.std.proofs.Common.{◌≡◌, ℕ, suc, ◌<◌, ◌≤◌, ◌⊎◌, inl, inr, List, [], Some, take, drop, length, refl, sym, ap, ◌∙◌, subst, arith}
use Rattle.std.specs.Prelude.{slice_get}
use Rattle.px_base.specs.declared.refusals.Refusal.{Refusal}
use Rattle.px_lexer.specs.declared.token_list.TokenKind.TheVariants as kind
use Rattle.px_lexer.specs.declared.token_list.Tokens.{Tokens}
use Rattle.px_tree.specs.declared.modules.Comment.{Comment}
use Rattle.px_tree.specs.declared.modules.Module.{Module}
use Rattle.px_lexer.specs.Terminals.{Terminal, terminals_of}
use Rattle.px_exprs.specs.Runs.{nesting_limit, IsRefusalAt}
use Rattle.px_exprs.proofs.Agreement.{agree_same}
use Rattle.px_lexer.proofs.OneToken.{one_token}
use Rattle.px_exprs.proofs.RunLaws.{front_and_more}
use Rattle.px_parser.specs.Ends.{IsBefore}
use Rattle.px_parser.specs.Laws.{ModulesAreUnique, ParsingIsUnique, RefusalsAreAtTokens, IsAtToken}
use Rattle.px_parser.specs.ModuleGrammar.{Item, ModuleForm}
use Rattle.px_parser.specs.Parsing.{strict, unseen_from, Derives, Begins, BeginsWithin, IsStop, IsNestedTooDeep, IsNoModule, IsForeign, IsModuleRefused, IsModuleOf, AreTogether}
use Rattle.px_parser.specs.Readings.{Anywhere}
use Rattle.px_parser.specs.Shapes.{Mode, Here, Many, Before, Seq}
use Rattle.px_parser.proofs.ItemShapes.{good_item, only_items}
use Rattle.px_parser.proofs.Onlies.{Only, leads_of, leads_here, leads_token, only_before, only_here, only_seq, only_placed, only_of}
use Rattle.px_parser.proofs.Parsed.{begins_fewer}
use Rattle.px_parser.proofs.Shapely.{AtLeast, Solid, sound_many, sound_before, sound_here, rises_many}
use Rattle.px_parser.proofs.Steps.{order, sees_strict, strict_rises, strict_unseen}

-- One module

solid_module : Solid (Seq (Many Item) (Before Here kind.End))
solid_module = record { grows = λ h. omega (arith, (sound_many good_item.sound).forward h.first, h.second.read.first.end, h.second.read.second.end) }

only_module : (comments : List Comment) → Only (ModuleForm comments) Anywhere
unfolding ModuleForm
only_module comments =
    only_of _
    (only_placed solid_module
    (only_seq (sound_many good_item.sound) (sound_before kind.End sound_here) only_items (leads_of _ (leads_here (leads_token kind.End Anywhere (IsBefore kind.End) (λ ts i h. h))))
    (only_before {M = IsBefore kind.End} kind.End Anywhere sound_here (only_here (IsBefore kind.End)) (λ ts i h. h))))

pub modules_unique : ModulesAreUnique
modules_unique limit other ts comments m n p q = ((only_module comments).one p tt q tt (agree_same ts) (sees_strict limit (length ts)) (sees_strict other (length ts))).0

-- Other comments, and more room

-- the same items with other leading comment lines
record HasModule (comments : List Comment) (mode : Mode) (ts : List Terminal) (n j : ℕ) : Type 0 where
  tree : Module
  derived : ModuleForm comments mode ts 0 tree n j

with_comments : (comments other : List Comment) (mode more : Mode) (ts : List Terminal) (m : Module) (n j : ℕ) → AtLeast mode more → ModuleForm comments mode ts 0 m n j → HasModule other more ts n j
unfolding ModuleForm
with_comments comments other mode more ts m n j least h =
    let parts = h.read.second in
    record {
      tree = record { number = h.inner.1.1; at = h.inner.0; items = m.items; comments = other };
      derived = record {
        inner = h.inner;
        read = record {
          middle = h.read.middle;
          first = record { placed = h.read.first.placed; end = h.read.first.end };
          second = record {
            middle = parts.middle;
            first = (rises_many (good_item.rises mode more n n least (omega arith))).rise parts.first;
            second = record {
              inner = parts.second.inner;
              read = record {
                middle = parts.second.read.middle;
                first = record { counted = parts.second.read.first.counted; end = parts.second.read.first.end };
                second = record { stands = parts.second.read.second.stands; end = parts.second.read.second.end };
              };
              tree = parts.second.tree;
            };
          };
        };
        tree = ap (λ (x : Module). record { number = h.inner.1.1; at = h.inner.0; items = x.items; comments = other }) h.tree;
      };
    }

-- each front of a module begins one
derived_begins : (limit k : ℕ) (ts : List Terminal) (comments : List Comment) (m : Module) → Derives limit ts comments m → k ≤ length ts → Begins (take k ts)
derived_begins limit k ts comments m p le =
    let bare = with_comments comments [] (strict limit) (strict limit) ts m limit (length ts) (strict_rises limit limit (omega arith)) p in
    (drop k ts, limit, bare.tree, subst (λ us. Derives limit us [] bare.tree) (front_and_more k ts ts (agree_same ts) le) bare.derived)

-- and one that isn't nested deeper
derived_begins_within : (k : ℕ) (ts : List Terminal) (comments : List Comment) (m : Module) → Derives nesting_limit ts comments m → k ≤ length ts → BeginsWithin nesting_limit ts k
derived_begins_within k ts comments m p le =
    let bare = with_comments comments [] (strict nesting_limit) (unseen_from nesting_limit k) ts m nesting_limit (length ts) (strict_unseen nesting_limit nesting_limit k (omega arith)) p in
    (drop k ts, bare.tree, subst (λ us. ModuleForm [] (unseen_from nesting_limit k) us 0 bare.tree nesting_limit (length us)) (front_and_more k ts ts (agree_same ts) le) bare.derived)

-- One refusal

-- where the lesser of two is always refuted, they are the same
same_index : (P : ℕ → Type 0) → ((i k : ℕ) → i < k → P i → P k → ⊥) → (k l : ℕ) → P k → P l → k ≡ l
same_index P clash k l p q = elim (order k l) [
  | inl lt ↦ absurd (clash k l lt p q)
  | inr le ↦ elim (order l k) [ inl lt ↦ absurd (clash l k lt q p) | inr ge ↦ omega (arith, le, ge) ]
]

foreign_once : (ts : List Terminal) (k l : ℕ) → IsForeign ts k → IsForeign ts l → k ≡ l
foreign_once ts k l p q = same_index (IsForeign ts) (λ i n lt a b. b.first i lt a.foreign) k l p q

stop_once : (ts : List Terminal) (k l : ℕ) → IsStop ts k → IsStop ts l → k ≡ l
stop_once ts k l p q = same_index (IsStop ts) (λ i n lt a b. a.none (begins_fewer ts (suc i) n (omega (arith, lt)) (omega (arith, b.within)) b.begins)) k l p q

deep_once : (ts : List Terminal) (k l : ℕ) → IsNestedTooDeep ts k → IsNestedTooDeep ts l → k ≡ l
deep_once ts k l p q = same_index (IsNestedTooDeep ts) (λ i n lt a b. b.first i lt a.deep) k l p q

-- the end of a line at the place of the token that stops is passed over in the one, and shows the nesting in the other
stop_or_deep : (ts : List Terminal) (k l : ℕ) → IsNoModule ts k → IsNestedTooDeep ts l → ⊥
stop_or_deep ts k l p q =
    let together = p.shallow l q.deep in
    q.apart (subst (AreTogether ts l) together.next together) (subst (IsStop ts) together.next p.stops)

one_refusal : (ts : List Terminal) (number k l : ℕ) (refusal other : Refusal) → k ≡ l → IsRefusalAt ts number k refusal → IsRefusalAt ts number l other → refusal ≡ other
one_refusal ts number k l refusal other e r s =
    let same = one_token ts l r.token s.token (subst (λ x. slice_get ts x ≡ Some r.token) e r.stands) s.stands in
    r.refused ∙ ap (λ (t : Terminal). record { number = number; line = t.at.line; column = t.at.column }) same ∙ sym s.refused

refusals_unique : (ts : List Terminal) (refusal other : Refusal) → IsModuleRefused ts refusal → IsModuleRefused ts other → refusal ≡ other
refusals_unique ts refusal other (IsModuleRefused.foreign_word k p r) (IsModuleRefused.foreign_word l q s) = one_refusal ts 27 k l refusal other (foreign_once ts k l p q) r s
refusals_unique ts refusal other (IsModuleRefused.foreign_word k p r) (IsModuleRefused.no_module l clean q s) = absurd (clean k p.foreign)
refusals_unique ts refusal other (IsModuleRefused.foreign_word k p r) (IsModuleRefused.nested_too_deep l clean q s) = absurd (clean k p.foreign)
refusals_unique ts refusal other (IsModuleRefused.no_module k clean p r) (IsModuleRefused.foreign_word l q s) = absurd (clean l q.foreign)
refusals_unique ts refusal other (IsModuleRefused.no_module k clean p r) (IsModuleRefused.no_module l still q s) = one_refusal ts 5 k l refusal other (stop_once ts k l p.stops q.stops) r s
refusals_unique ts refusal other (IsModuleRefused.no_module k clean p r) (IsModuleRefused.nested_too_deep l still q s) = absurd (stop_or_deep ts k l p q)
refusals_unique ts refusal other (IsModuleRefused.nested_too_deep k clean p r) (IsModuleRefused.foreign_word l q s) = absurd (clean l q.foreign)
refusals_unique ts refusal other (IsModuleRefused.nested_too_deep k clean p r) (IsModuleRefused.no_module l still q s) = absurd (stop_or_deep ts l k q p)
refusals_unique ts refusal other (IsModuleRefused.nested_too_deep k clean p r) (IsModuleRefused.nested_too_deep l still q s) = one_refusal ts 6 k l refusal other (deep_once ts k l p q) r s

-- A module, or a refusal

not_both : (tokens : Tokens) (m : Module) (refusal : Refusal) → IsModuleOf tokens m → IsModuleRefused (terminals_of tokens) refusal → ⊥
not_both tokens m refusal p (IsModuleRefused.foreign_word k q r) = p.clean k q.foreign
not_both tokens m refusal p (IsModuleRefused.no_module k clean q r) = q.stops.none (derived_begins nesting_limit (suc k) (terminals_of tokens) _ m p.derived (omega (arith, q.stops.within)))
not_both tokens m refusal p (IsModuleRefused.nested_too_deep k clean q r) = q.deep.deep (derived_begins_within (suc k) (terminals_of tokens) _ m p.derived (omega (arith, q.deep.within)))

pub parsing_unique : ParsingIsUnique
parsing_unique = record {
  parsed = λ tokens m n p q. modules_unique nesting_limit nesting_limit (terminals_of tokens) _ m n p.derived q.derived;
  refused = λ ts refusal other r s. refusals_unique ts refusal other r s;
  either = λ tokens m refusal p r. not_both tokens m refusal p r;
}

-- Where refusals stand

refusal_at : (ts : List Terminal) (number k : ℕ) (refusal : Refusal) → IsRefusalAt ts number k refusal → (number ≡ 5) ⊎ ((number ≡ 6) ⊎ (number ≡ 27)) → IsAtToken ts refusal
refusal_at ts number k refusal r known = record {
  index = k;
  token = r.token;
  stands = r.stands;
  line = ap (λ (x : Refusal). x.line) r.refused;
  column = ap (λ (x : Refusal). x.column) r.refused;
  number = subst (λ n. (n ≡ 5) ⊎ ((n ≡ 6) ⊎ (n ≡ 27))) (sym (ap (λ (x : Refusal). x.number) r.refused)) known;
}

pub refusals_at_tokens : RefusalsAreAtTokens
refusals_at_tokens ts refusal (IsModuleRefused.foreign_word k p r) = refusal_at ts 27 k refusal r (inr (inr refl))
refusals_at_tokens ts refusal (IsModuleRefused.no_module k clean p r) = refusal_at ts 5 k refusal r (inl refl)
refusals_at_tokens ts refusal (IsModuleRefused.nested_too_deep k clean p r) = refusal_at ts 6 k refusal r (inr (inl refl))
