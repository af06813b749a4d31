-- `station::completing::reply_exchange` meets its contract.
use Rattle.station.proofs.ExchangeReplied.{drew_inputs, sends_inputs, drew_flag, sends_flag, drew_e5, sends_e5, replied_over}
use Rattle.station.proofs.completing.reply_exchange.Goals as goal

pub returns-then-setup-ne0 : goal.returns-then-setup-ne0
returns-then-setup-ne0 c =
    let z = c.if-setup-ne0.true in
    replied_over c.args.r c.args.setup c.args.control c.args.held _ c.args.header _ _ _ _ _ _ _
    c.master_of-master.ensures
    c.chain_by.ensures
    (drew_inputs c.args.setup c.args.control z)
    (sends_inputs c.args.setup c.args.control z c.exchange_fc-fc.ensures c.telegram-sender.ensures)
    c.exchange_reply.ensures
    c.save_chain.ensures
    c.save_reply.ensures

pub returns-then-control : goal.returns-then-control
returns-then-control c =
    let z = c.if-setup-ne0.false in
    let f = c.if-control.true in
    replied_over c.args.r c.args.setup c.args.control c.args.held _ c.args.header _ _ _ _ _ _ _
    c.master_of-master.ensures
    c.chain_by-then-control.ensures
    (drew_flag c.args.setup c.args.control z f)
    (sends_flag c.args.setup c.args.control z f c.exchange_fc-fc.ensures c.telegram-sender-then-control.ensures)
    c.exchange_reply-then-control.ensures
    c.save_chain-then-control.ensures
    c.save_reply-then-control.ensures

pub returns : goal.returns
returns c =
    let z = c.if-setup-ne0.false in
    let f = c.if-control.false in
    replied_over c.args.r c.args.setup c.args.control c.args.held _ c.args.header _ _ _ _ _ _ _
    c.master_of-master.ensures
    c.chain_by-2.ensures
    (drew_e5 c.args.setup c.args.control z f)
    (sends_e5 c.args.setup c.args.control z f _ c.single.ensures)
    c.exchange_reply-2.ensures
    c.save_chain-2.ensures
    c.save_reply-2.ensures
