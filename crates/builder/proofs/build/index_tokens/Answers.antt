-- `index_tokens` meets its contract: its local heads and pages are all zeros, the counts give the size, and the chains give the numbers
-- that the tokens stand for.
use mathlib.Core.Path.{refl}
use Rattle.models.specs.Readability.{most_keys}
use native.Mathlib.Omega.{arith}
use Rattle.laws.specs.Build.Building.{fresh, linked_listable, linked_size, linked_room, token_entry_refused, token_entry_put}
use Rattle.builder.proofs.build.index_tokens.Goals as goal

pub chain_positions-counts-requires-clause-fresh : goal.chain_positions-counts-requires-clause-fresh
chain_positions-counts-requires-clause-fresh c = fresh most_keys 1088 refl refl

pub returns-then-output-size : goal.returns-then-output-size
returns-then-output-size c =
    token_entry_refused c.requires c.chain_positions-counts.ensures c.args.output.now (omega arith)

pub write_index-requires-clause-listable : goal.write_index-requires-clause-listable
write_index-requires-clause-listable c = linked_listable c.requires c.chain_positions-counts.ensures

pub write_index-requires-clause-size_of : goal.write_index-requires-clause-size_of
write_index-requires-clause-size_of c = linked_size c.requires c.chain_positions-counts.ensures

pub write_index-requires-clause-links_in_bounds : goal.write_index-requires-clause-links_in_bounds
write_index-requires-clause-links_in_bounds c =
    linked_room c.requires c.chain_positions-counts.ensures c.args.output.now (omega arith)

pub returns : goal.returns
returns c =
    rw c.line_start.ensures
    (token_entry_put c.requires c.chain_positions-counts.ensures c.args.output.now c.write_index.new.output
    (omega arith) c.write_index.ensures)
