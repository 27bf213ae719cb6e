use Rattle.std.proofs.Common.{◌≡◌, ◌++◌, codes, rules}
use Rattle.outside.specs.Bytes.{PutAppends}
use Rattle.replay_lines.specs.Pieces.{pieces_of}
use Rattle.replay_lines.specs.ReplayLines.{numbered, side_lines, end_line}
use Rattle.replay_lines.proofs.Printed.{printed, broken, stopped, last_put, front_put}
use Rattle.replay_lines.proofs.Printed.{life_begins}
use Rattle.replay_lines.proofs.printing.put_life.Goals as goal

pub returns-in_err-print_side-clause-lines : goal.returns-in_err-print_side-clause-lines
returns-in_err-print_side-clause-lines g c =
    let life = c.args.life.now in
    let old = g.O.Sink.bytes c.args.out.now in
    let head = numbered (codes "life") life.number in
    let client = side_lines (codes "client") 1 (pieces_of life.client.now) in
    let venue = side_lines (codes "venue") 1 (pieces_of life.venue.now) in
    let end = end_line life.end.now in
    let text = c.append_numbered.new.text.items in
    let is : text ≡ head = search rules in
    front_put c.from_residual-in_err-print_side.result
    c.from_residual-in_err-print_side.ensures.0 old (g.O.Sink.bytes c.print_side.new.out)
    (head ++ client ++ venue ++ end)
    (broken old old (g.O.Sink.bytes c.print_side.new.out) text (venue ++ end)
    (head ++ client ++ venue ++ end) client
    (life_begins old text head client venue end is) c.in_err-print_side.ensures.prints)

pub returns-in_err-print_side-2-clause-lines : goal.returns-in_err-print_side-2-clause-lines
returns-in_err-print_side-2-clause-lines g c =
    let life = c.args.life.now in
    let old = g.O.Sink.bytes c.args.out.now in
    let mid = g.O.Sink.bytes c.print_side.new.out in
    let new = g.O.Sink.bytes c.print_side-2.new.out in
    let head = numbered (codes "life") life.number in
    let client = side_lines (codes "client") 1 (pieces_of life.client.now) in
    let venue = side_lines (codes "venue") 1 (pieces_of life.venue.now) in
    let end = end_line life.end.now in
    let text = c.append_numbered.new.text.items in
    let is : text ≡ head = search rules in
    front_put c.from_residual-in_err-print_side-2.result
    c.from_residual-in_err-print_side-2.ensures.0 old new (head ++ client ++ venue ++ end)
    (broken old mid new c.print_side.new.text.items end (head ++ client ++ venue ++ end) venue
    (printed old old mid text (venue ++ end) (head ++ client ++ venue ++ end) client
    (life_begins old text head client venue end is) c.print_side.new.text.items
    c.in_ok-print_side.ensures.prints) c.in_err-print_side-2.ensures.prints)

pub returns-in_err-append_end-clause-lines : goal.returns-in_err-append_end-clause-lines
returns-in_err-append_end-clause-lines g c =
    let life = c.args.life.now in
    let old = g.O.Sink.bytes c.args.out.now in
    let mid = g.O.Sink.bytes c.print_side.new.out in
    let new = g.O.Sink.bytes c.print_side-2.new.out in
    let head = numbered (codes "life") life.number in
    let client = side_lines (codes "client") 1 (pieces_of life.client.now) in
    let venue = side_lines (codes "venue") 1 (pieces_of life.venue.now) in
    let end = end_line life.end.now in
    let text = c.append_numbered.new.text.items in
    let is : text ≡ head = search rules in
    front_put c.from_residual-in_err-append_end.result
    c.from_residual-in_err-append_end.ensures.0 old new (head ++ client ++ venue ++ end)
    (stopped old new c.print_side-2.new.text.items end (head ++ client ++ venue ++ end)
    (printed old mid new c.print_side.new.text.items end (head ++ client ++ venue ++ end) venue
    (printed old old mid text (venue ++ end) (head ++ client ++ venue ++ end) client
    (life_begins old text head client venue end is) c.print_side.new.text.items
    c.in_ok-print_side.ensures.prints) c.print_side-2.new.text.items
    c.in_ok-print_side-2.ensures.prints))

pub returns-clause-lines : goal.returns-clause-lines
returns-clause-lines g c =
    let life = c.args.life.now in
    let old = g.O.Sink.bytes c.args.out.now in
    let mid = g.O.Sink.bytes c.print_side.new.out in
    let new = g.O.Sink.bytes c.print_side-2.new.out in
    let last = g.O.Sink.bytes c.put_text.new.out in
    let head = numbered (codes "life") life.number in
    let client = side_lines (codes "client") 1 (pieces_of life.client.now) in
    let venue = side_lines (codes "venue") 1 (pieces_of life.venue.now) in
    let end = end_line life.end.now in
    let text = c.append_numbered.new.text.items in
    let is : text ≡ head = search rules in
    let all : c.append_end.new.text.items ≡ c.print_side-2.new.text.items ++ end = search rules in
    let put : PutAppends new last c.put_text.result c.append_end.new.text.items = search rules in
    last_put old new last c.print_side-2.new.text.items c.append_end.new.text.items end
    (head ++ client ++ venue ++ end)
    (printed old mid new c.print_side.new.text.items end (head ++ client ++ venue ++ end) venue
    (printed old old mid text (venue ++ end) (head ++ client ++ venue ++ end) client
    (life_begins old text head client venue end is) c.print_side.new.text.items
    c.in_ok-print_side.ensures.prints) c.print_side-2.new.text.items
    c.in_ok-print_side-2.ensures.prints) all c.put_text.result put
