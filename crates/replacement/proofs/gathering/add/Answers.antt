-- A term that is there already changes nothing; another is one row more, or one too many.
use mathlib.Core.Path.{◌≡◌, sym, ◌∙◌}
use mathlib.Core.Bool.{true≢false}
use mathlib.Core.List.{List}
use lib.IntN.{ℤ}
use lib.ListN.{length}
use borrow.Author.Rules.{rules}
use borrow.Author.Tests.{eqb-true, eq-eqb}
use Rattle.std.proofs.Common.{tests}
use Rattle.std.proofs.lemmas.Iterator.{YieldsList-from_slice}
use Rattle.std.proofs.lemmas.Iterator.Search.{any_from_yields_List}
use Rattle.exact.specs.Numbers.{same_row}
use Rattle.replacement.specs.Gathering.{among}
use Rattle.replacement.proofs.gathering.TermLaws.{among-is, add-known, add-full, add-new}
use Rattle.replacement.proofs.gathering.add.Goals as goal
use Rattle.replacement.proofs.gathering.add.Goals.{After-any}

seen : (c : After-any) → c.any.result ≡ among c.args.t c.args.ts.now.items
seen c = any_from_yields_List (λ (u : List ℤ). same_row u c.args.t) _ _ _ c.any.ensures.ran (YieldsList-from_slice c.args.ts.now.items cc) (λ x b q k. search (rules, tests)) ∙ among-is c.args.t c.args.ts.now.items

pub returns-then-any : goal.returns-then-any
returns-then-any c = add-known c.args.ts.now.items c.args.t c.requires.table (sym (seen (goal.at.returns-then-any c).After-any) ∙ c.if-any.true)

pub returns-then-is_full : goal.returns-then-is_full
returns-then-is_full c = add-full c.args.ts.now.items c.args.t c.requires.table (sym (seen (goal.at.returns-then-is_full c).After-any) ∙ c.if-any.false) (eqb-true (length c.args.ts.now.items) 64 (sym c.is_full.ensures.value ∙ c.if-is_full.true))

pub returns : goal.returns
returns c =
    let ten : length c.args.t ≡ 10 = search rules in
    add-new c.args.ts.now.items c.args.t c.requires.table (sym (seen (goal.at.returns c).After-any) ∙ c.if-any.false) (λ e. true≢false (sym (eq-eqb (length c.args.ts.now.items) 64 e) ∙ sym c.is_full.ensures.value ∙ c.if-is_full.false)) (record { ten = ten; small = c.requires.each }) _ c.push.ensures.items
