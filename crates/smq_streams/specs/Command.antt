-- Which numbers are a command_id (SMPP 3.4, 5.1.2.1; SMPP 5.0, 4.7.5).
use Rattle.std.specs.Prelude.{◌≡◌, ℕ, ◌-◌, ◌≤◌, ◌<◌, ◌^◌, ◌⊎◌}

-- the command_id of a request of SMPP 3.4 that has a response: bind_receiver, bind_transmitter, query_sm, submit_sm, deliver_sm,
-- unbind, replace_sm, cancel_sm and bind_transceiver have 1 to 9; enquire_link, submit_multi, data_sm
abbrev pub IsAnswered : ℕ → Type 0
IsAnswered n = ((1 ≤ n) × (n ≤ 9)) ⊎ ((n ≡ 0x15) ⊎ ((n ≡ 0x21) ⊎ (n ≡ 0x103)))

-- of SMPP 5.0: broadcast_sm, query_broadcast_sm and cancel_broadcast_sm
abbrev pub IsBroadcast : ℕ → Type 0
IsBroadcast n = (0x111 ≤ n) × (n ≤ 0x113)

-- of a vendor: reserved for them
abbrev pub IsVendors : ℕ → Type 0
IsVendors n = (0x0001_0200 ≤ n) × (n ≤ 0x0001_02FF)

-- of a request that has a response
abbrev pub HasResponse : ℕ → Type 0
HasResponse n = IsAnswered n ⊎ (IsBroadcast n ⊎ IsVendors n)

-- of a response: that of its request with bit 31 set, or generic_nack
abbrev pub IsResponse : ℕ → Type 0
IsResponse n = (n ≡ 0x8000_0000) ⊎ ((0x8000_0000 ≤ n) × HasResponse (n - 0x8000_0000))

-- of any PDU: outbind and alert_notification have no response
abbrev pub IsCommand : ℕ → Type 0
IsCommand n = HasResponse n ⊎ ((n ≡ 0x0B) ⊎ ((n ≡ 0x102) ⊎ IsResponse n))
