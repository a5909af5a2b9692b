use borrow.Author.Rules.{rules}
use mathlib.Core.Path.{sym, ◌∙◌, subst}
use Prim.Native.Nat.{◌<◌, ◌-◌, ◌%◌}
use lib.ListN.{length, get_or}
use Rattle.index.specs.Contacts.{no_contact, plain}
use Rattle.search.specs.declared.Hit.{Hit}
use Rattle.search.proofs.FindLaws.{Walking, find_none, find_first, find_next, find_down, find_end, chain_in, contact_in, short_list}
use Rattle.search.proofs.find.Goals as goal

pub returns-then-n-eq0 : goal.returns-then-n-eq0
returns-then-n-eq0 c =
    let a = c.args in
    c.no_hit-best.ensures ∙ find_none a.list.now (plain a.rows.now) a.text.now a.wanted a.limit a.n c.requires c.if-n-eq0.true

pub bounds-rows-b : goal.bounds-rows-b
bounds-rows-b c =
    let a = c.args in
    chain_in a.list.now a.rows.now a.text.now a.wanted a.limit a.n c.code_for-code.result c.requires c.code_for-code.ensures c.if-n-eq0.false

pub offset_bounds-rows-b : goal.offset_bounds-rows-b
offset_bounds-rows-b c =
    let a = c.args in
    let h : c.code_for-code.result % a.n < length a.rows.now =
    chain_in a.list.now a.rows.now a.text.now a.wanted a.limit a.n c.code_for-code.result c.requires c.code_for-code.ensures c.if-n-eq0.false in
    search rules

pub loop-at-init : goal.loop-at-init
loop-at-init c =
    let a = c.args in
    subst (λ (h : Hit). Walking a.list.now (plain a.rows.now) a.text.now a.wanted a.limit a.n c.code_for-code.result (get_or a.rows.now (c.code_for-code.result % a.n) no_contact).head h) (sym c.no_hit-best.ensures)
    (find_first a.list.now a.rows.now a.text.now a.wanted a.limit a.n c.code_for-code.result c.requires c.code_for-code.ensures c.if-n-eq0.false)

pub bounds-rows-at : goal.bounds-rows-at
bounds-rows-at c =
    let a = c.args in
    contact_in a.list.now a.rows.now a.text.now a.wanted a.limit a.n c.code_for-code.result c.requires c.code_for-code.ensures c.if-n-eq0.false
    c.loop-at.at c.loop-at.best c.loop-at.invariant c.loop-at-test.true

pub offset_bounds-rows-at : goal.offset_bounds-rows-at
offset_bounds-rows-at c =
    let a = c.args in
    let h : c.loop-at.at - 1 < length a.rows.now =
    contact_in a.list.now a.rows.now a.text.now a.wanted a.limit a.n c.code_for-code.result c.requires c.code_for-code.ensures c.if-n-eq0.false
    c.loop-at.at c.loop-at.best c.loop-at.invariant c.loop-at-test.true in
    search rules

pub found-best-requires : goal.found-best-requires
found-best-requires c = let a = c.args in short_list a.list.now a.n (plain a.rows.now) c.requires

pub loop-at-preserved : goal.loop-at-preserved
loop-at-preserved c =
    let a = c.args in
    find_next a.list.now a.rows.now a.text.now a.wanted a.limit a.n c.code_for-code.result c.requires c.code_for-code.ensures c.if-n-eq0.false
    c.loop-at.at c.loop-at.best c.loop-at.invariant c.loop-at-test.true c.found-best.result c.found-best.ensures

pub loop-at-smaller : goal.loop-at-smaller
loop-at-smaller c =
    let a = c.args in
    find_down a.list.now a.rows.now a.text.now a.wanted a.limit a.n c.code_for-code.result c.requires c.code_for-code.ensures c.if-n-eq0.false
    c.loop-at.at c.loop-at.best c.loop-at.invariant c.loop-at-test.true

pub returns : goal.returns
returns c =
    let a = c.args in
    find_end a.list.now (plain a.rows.now) a.text.now a.wanted a.limit a.n c.code_for-code.result c.requires c.code_for-code.ensures c.if-n-eq0.false
    c.loop-at.at c.loop-at.best c.loop-at.invariant c.loop-at-test.false
