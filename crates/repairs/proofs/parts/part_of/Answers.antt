-- `repairs::parts::part_of` meets its contract: the test of each part's two constant tables is computed here. Assumes nothing.
use Rattle.lists.proofs.Tree.{grow}
use Rattle.annex10.proofs.Singles.{singles, singles_from}
use Rattle.repairs.proofs.Rules.{double_rule, rising, double_right, row_has, behind_has, pairs_have, part_law}
use Rattle.repairs.proofs.parts.part_of.Goals as goal

pub returns-in-0 : goal.returns-in-0
unfolding double_rule rising double_right row_has behind_has pairs_have grow singles singles_from
returns-in-0 c = part_law 0 _ c.in-0.is _ _ tt

pub returns-in-1 : goal.returns-in-1
unfolding double_rule rising double_right row_has behind_has pairs_have grow singles singles_from
returns-in-1 c = part_law 1 _ c.in-1.is _ _ tt

pub returns-in-2 : goal.returns-in-2
unfolding double_rule rising double_right row_has behind_has pairs_have grow singles singles_from
returns-in-2 c = part_law 2 _ c.in-2.is _ _ tt

pub returns-in-3 : goal.returns-in-3
unfolding double_rule rising double_right row_has behind_has pairs_have grow singles singles_from
returns-in-3 c = part_law 3 _ c.in-3.is _ _ tt

pub returns-in-4 : goal.returns-in-4
unfolding double_rule rising double_right row_has behind_has pairs_have grow singles singles_from
returns-in-4 c = part_law 4 _ c.in-4.is _ _ tt

pub returns-in-5 : goal.returns-in-5
unfolding double_rule rising double_right row_has behind_has pairs_have grow singles singles_from
returns-in-5 c = part_law 5 _ c.in-5.is _ _ tt

pub returns-in-6 : goal.returns-in-6
unfolding double_rule rising double_right row_has behind_has pairs_have grow singles singles_from
returns-in-6 c = part_law 6 _ c.in-6.is _ _ tt

pub returns-in-7 : goal.returns-in-7
unfolding double_rule rising double_right row_has behind_has pairs_have grow singles singles_from
returns-in-7 c = part_law 7 _ c.in-7.is _ _ tt

pub returns-in-8 : goal.returns-in-8
unfolding double_rule rising double_right row_has behind_has pairs_have grow singles singles_from
returns-in-8 c = part_law 8 _ c.in-8.is _ _ tt

pub returns-in-9 : goal.returns-in-9
unfolding double_rule rising double_right row_has behind_has pairs_have grow singles singles_from
returns-in-9 c = part_law 9 _ c.in-9.is _ _ tt

pub returns-in-10 : goal.returns-in-10
unfolding double_rule rising double_right row_has behind_has pairs_have grow singles singles_from
returns-in-10 c = part_law 10 _ c.in-10.is _ _ tt

pub returns-in-11 : goal.returns-in-11
unfolding double_rule rising double_right row_has behind_has pairs_have grow singles singles_from
returns-in-11 c = part_law 11 _ c.in-11.is _ _ tt

pub returns-in-12 : goal.returns-in-12
unfolding double_rule rising double_right row_has behind_has pairs_have grow singles singles_from
returns-in-12 c = part_law 12 _ c.in-12.is _ _ tt

pub returns-in-13 : goal.returns-in-13
unfolding double_rule rising double_right row_has behind_has pairs_have grow singles singles_from
returns-in-13 c = part_law 13 _ c.in-13.is _ _ tt

pub returns-in-14 : goal.returns-in-14
unfolding double_rule rising double_right row_has behind_has pairs_have grow singles singles_from
returns-in-14 c = part_law 14 _ c.in-14.is _ _ tt

pub returns-in-15 : goal.returns-in-15
unfolding double_rule rising double_right row_has behind_has pairs_have grow singles singles_from
returns-in-15 c = part_law 15 _ c.in-15.is _ _ tt
