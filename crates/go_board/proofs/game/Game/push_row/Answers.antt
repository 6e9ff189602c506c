use Rattle.std.proofs.Common.{rules, ◌≡◌, ◌≤◌, ◌+◌, ◌++◌, length, append_assoc, arith, ap, ◌∙◌}
use Rattle.arrayvec.specs.ArrayVec.{array_vec_len}
use Rattle.go_board.specs.Show.{shown_points}
use Rattle.go_board.proofs.BoardText.{written_int-two}
use Rattle.go_board.proofs.game.Game.push_row.Goals as goal

pub returns-clause-row : goal.returns-clause-row
returns-clause-row c =
    let is = c.deref.ensures.0 ∙ c.write_int.ensures in
    let digits : length c.deref.result.now ≤ 2 = written_int-two c.args.row c.deref.result.now c.requires.most is in
    let room : array_vec_len c.push_points.new.text + length c.deref.result.now ≤ 2000 = omega arith in
    let number : c.try_extend_from_slice.new.self.items ≡ c.push_points.new.text.items ++ c.deref.result.now =
    search rules in
    number
    ∙ ap (λ t. t ++ c.deref.result.now) c.push_points.ensures.points
    ∙ append_assoc c.args.text.now.items (shown_points c.args.self.now c.args.row) c.deref.result.now
    ∙ ap (λ t. c.args.text.now.items ++ (shown_points c.args.self.now c.args.row ++ t)) is

pub returns-clause-few : goal.returns-clause-few
returns-clause-few c =
    let digits : length c.deref.result.now ≤ 2 =
    written_int-two c.args.row c.deref.result.now c.requires.most (c.deref.ensures.0 ∙ c.write_int.ensures) in
    let room : array_vec_len c.push_points.new.text + length c.deref.result.now ≤ 2000 = omega arith in
    search rules
