-- `flag_bearing` meets its contract: the offsets below 0, then those from 0 up.
use native.Mathlib.Omega.{arith}
use Rattle.laws.specs.Window.LeadingLines.{leading_below}
use Rattle.laws.specs.Cut.Flagging.{flags_none}
use Rattle.laws.specs.Cut.FlagWalks.{backs_leading, flags_exact_flags}
use Rattle.dictionary.specs.Words.{lexicon_of}
use Rattle.agreement.specs.Lines.{search_lines}
use Rattle.bearing.proofs.bearing.flag_bearing.Goals as goal

pub flag_list-requires : goal.flag_list-requires
flag_list-requires c =
    let a = c.args in
    let found = c.list_leading-leading in
    let below =
    leading_below 1 (lexicon_of a.directory.now.words) a.directory.now.index.now a.string.now found.result.words found.ensures.2 in
    λ j b. omega (arith, below j b, found.ensures.0.within, c.requires.room)

pub flag_offsets-requires-clause-flags : goal.flag_offsets-requires-clause-flags
flag_offsets-requires-clause-flags c =
    (backs_leading c.list_leading-leading.ensures.2 (flags_none c.requires.cleared c.requires.room) c.flag_list.ensures).way.flags

pub returns : goal.returns
returns c =
    let found = c.list_leading-leading.ensures in
    flags_exact_flags (search_lines c.args.directory.now found.0 c.requires.is_string)
    (backs_leading found.2 (flags_none c.requires.cleared c.requires.room) c.flag_list.ensures) c.flag_offsets.ensures
