-- What the definitions give for some known packets of a direction.
use Rattle.std.specs.Prelude.{◌≡◌, ℕ, List, [], ◌∷◌}
use Rattle.smq_capture.specs.declared.tops.Top.{Top}
use Rattle.smq_capture.specs.Tops.{AreInOrder, AreNoted, Brought, Call, Forgets, KeepFrom, Notes, Passes, noted_before, noted_by, packets_in, top_before, top_of, with_note}

abbrev pub came : ℕ → ℕ → Brought
came number until = record { number = number; until = until }

abbrev pub top : ℕ → ℕ → Top
top number before = record { number = number; before = before }

-- packets, of which one comes twice, and one has only octets that came before
abbrev pub packets : List Brought
packets = came 4 10 ∷ came 6 30 ∷ came 6 40 ∷ came 9 35 ∷ came 11 50 ∷ []

-- what is noted of them: not the one that brought nothing
abbrev pub tops : List Top
tops = top 4 0 ∷ top 6 10 ∷ top 6 30 ∷ top 11 40 ∷ []

-- the first isn't noted, and what was noted is forgotten behind the second
abbrev pub calls : List Call
calls = Passes (came 4 10) ∷ Notes (came 6 30) ∷ Forgets ∷ Notes (came 6 40) ∷ Notes (came 9 35) ∷ Notes (came 11 50) ∷ []

pub record KnowsTops : Type 0 where
  -- the greatest place counts, and not the last
  pub all : top_of packets ≡ 50
  pub greatest : top_before 10 packets ≡ 40
  -- a packet isn't before itself, also where it comes twice
  pub first : top_before 4 packets ≡ 0
  pub second : top_before 6 packets ≡ 10
  pub behind_second : top_before 7 packets ≡ 40
  pub last : top_before 11 packets ≡ 40
  pub behind_last : top_before 12 packets ≡ 50
  -- numbers may come again, and none is less than one before it
  pub order : AreInOrder packets
  pub no_order : AreInOrder (came 6 30 ∷ came 4 40 ∷ []) → ⊥
  -- each packet that brought something is noted with the place before it, or is before the number from which on all are
  pub noted : AreNoted 0 0 packets tops
  pub not_all : AreNoted 4 0 (came 4 10 ∷ []) [] → ⊥
  pub before_all : AreNoted 5 0 (came 4 10 ∷ []) []
  pub no_place : AreNoted 0 0 (came 4 10 ∷ []) (top 4 10 ∷ []) → ⊥
  pub nothing : AreNoted 0 10 (came 4 10 ∷ []) (top 4 10 ∷ []) → ⊥
  -- notes tell the place of the first that isn't before a packet, and the top where there is none
  pub tells : noted_before 7 50 tops ≡ 40
  pub tells_itself : noted_before 6 50 tops ≡ 10
  pub tells_early : noted_before 1 50 tops ≡ 0
  pub tells_top : noted_before 12 50 tops ≡ 50
  pub tells_none : noted_before 7 50 [] ≡ 50
  -- what brought nothing isn't noted, and what comes behind a later packet is noted as that one
  pub adds : with_note 9 40 50 (top 6 30 ∷ []) ≡ top 6 30 ∷ top 9 40 ∷ []
  pub adds_none : with_note 9 40 40 (top 6 30 ∷ []) ≡ top 6 30 ∷ []
  pub adds_late : with_note 5 40 50 (top 6 30 ∷ []) ≡ top 6 30 ∷ top 6 40 ∷ []
  -- of what is forgotten no note is left; the packets came, though
  pub by : noted_by 0 [] calls ≡ top 6 30 ∷ top 11 40 ∷ []
  pub put : packets_in calls ≡ packets
  -- they are known from the packet behind those that are forgotten
  pub keeps : KeepFrom 7 [] calls
  pub forgets : KeepFrom 6 [] calls → ⊥
  pub passes : KeepFrom 4 [] (Passes (came 4 10) ∷ []) → ⊥
