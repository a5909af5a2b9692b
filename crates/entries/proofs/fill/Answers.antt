use native.Mathlib.Omega.{arith}
use borrow.Author.Rules.{rules}
use Rattle.entries.proofs.WalkLaws.{fill_start, fill_few, fill_fits, fill_inside, fill_on, fill_end}
use Rattle.entries.proofs.FilledLaws.{filled_length, filled_behind, filled_said, filled_answered, filled_bare}
use Rattle.entries.proofs.fill.Goals as goal

pub loop-k-init : goal.loop-k-init
loop-k-init c = (search (rules, fill_few), search rules, search rules, search (rules, fill_start))

pub row_of_record-requires : goal.row_of_record-requires
row_of_record-requires c = (search rules, search rules, search (rules, fill_fits))

pub loop-k-preserved : goal.loop-k-preserved
loop-k-preserved c = (search rules, search (rules, fill_inside), search rules, search (rules, fill_on))

pub returns : goal.returns
returns c =
    let read = c.requires.0 in
    let room = c.requires.1 in
    let full = fill_end _ _ _ _ _ _ _ (omega arith) c.loop-k.invariant.3 in
    record {
      rows_after = full;
      said = filled_said _ _ _ read _ _ room full;
      answered = filled_answered _ _ _ read _ _ room full;
      bare = filled_bare _ _ _ read _ _ room full;
      rows_len_unchanged = filled_length _ _ _ read _ _ room full;
      rows_unchanged = filled_behind _ _ _ read _ _ room full;
    }
