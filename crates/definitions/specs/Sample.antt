-- Sample: a small network, tried on every definition.
--
--   Two end systems send through one port of a switch, all at 100 Mb/s: link 10 every 2 ms, up to 500 bytes;
--   link 20 every 4 ms, up to 1,000 bytes.

use Rattle.std.specs.Prelude.{ℕ, cond, List, [], ◌∷◌, ◌++◌, Some, None, codes, ◌==◌}
use Rattle.definitions.specs.declared.network.PortKind.TheVariants.{End, Switch}
use Rattle.definitions.specs.declared.network.Port.{Port}
use Rattle.definitions.specs.declared.network.VirtualLink.{VirtualLink}
use Rattle.definitions.specs.declared.network.Hop.{Hop}
use Rattle.definitions.specs.Network.{Records}
use Rattle.definitions.specs.Figures.{Figures}
use Rattle.definitions.specs.Traffic.{Frame, Traffic}
use Rattle.definitions.specs.Text.{line_of}

abbrev pub port_1 : Port
port_1 = record { number = 1; kind = End; rate = 100 }

abbrev pub port_2 : Port
port_2 = record { number = 2; kind = End; rate = 100 }

abbrev pub port_3 : Port
port_3 = record { number = 3; kind = Switch; rate = 100 }

abbrev pub link_10 : VirtualLink
link_10 = record { number = 10; gap = 2; shortest = 64; longest = 500 }

abbrev pub link_20 : VirtualLink
link_20 = record { number = 20; gap = 4; shortest = 64; longest = 1000 }

abbrev pub hop_10_1 : Hop
hop_10_1 = record { link = 10; port = 1; after = None }

abbrev pub hop_10_3 : Hop
hop_10_3 = record { link = 10; port = 3; after = Some 1 }

abbrev pub hop_20_2 : Hop
hop_20_2 = record { link = 20; port = 2; after = None }

abbrev pub hop_20_3 : Hop
hop_20_3 = record { link = 20; port = 3; after = Some 2 }

abbrev pub sample : Records
sample = record {
  ports = port_1 ∷ port_2 ∷ port_3 ∷ [];
  links = link_10 ∷ link_20 ∷ [];
  hops = hop_10_1 ∷ hop_10_3 ∷ hop_20_2 ∷ hop_20_3 ∷ [];
}

abbrev pub text_of : List (List ℕ) → List ℕ
text_of [] = []
text_of (l ∷ ls) = line_of (l ∷ []) ++ text_of ls

abbrev pub sample_text : List ℕ
sample_text = text_of (
    codes "VLT,1"
    ∷ codes "@port,number,kind,rate"
    ∷ codes "1,E,100"
    ∷ codes "2,E,100"
    ∷ codes "3,S,100"
    ∷ codes "@link,number,gap,shortest,longest"
    ∷ codes "10,2,64,500"
    ∷ codes "20,4,64,1000"
    ∷ codes "@hop,link,port,after"
    ∷ codes "10,1,-"
    ∷ codes "10,3,1"
    ∷ codes "20,2,-"
    ∷ codes "20,3,2"
    ∷ [])

-- the same network with its columns in another order, and a column that is not read before the gap
abbrev pub reordered_text : List ℕ
reordered_text = text_of (
    codes "VLT,1"
    ∷ codes "@port,rate,number,kind"
    ∷ codes "100,1,E"
    ∷ codes "100,2,E"
    ∷ codes "100,3,S"
    ∷ codes "@link,longest,name,gap,number,shortest"
    ∷ codes "500,left,2,10,64"
    ∷ codes "1000,right,4,20,64"
    ∷ codes "@hop,after,link,port"
    ∷ codes "-,10,1"
    ∷ codes "1,10,3"
    ∷ codes "-,20,2"
    ∷ codes "2,20,3"
    ∷ [])

abbrev pub sample_listing : List ℕ
sample_listing = text_of (
    codes "VLR,1"
    ∷ codes "port,1,40000,1"
    ∷ codes "port,2,80000,1"
    ∷ codes "port,3,120000,2"
    ∷ codes "hop,10,1,0,0,40000"
    ∷ codes "hop,10,3,21120,56000,176000"
    ∷ codes "hop,20,2,0,0,80000"
    ∷ codes "hop,20,3,21120,96000,216000"
    ∷ [])

-- by port 1, 2 and any other; link 10 and any other
abbrev pub by_port : ℕ → ℕ → ℕ → ℕ → ℕ
by_port one two three p = cond (p == 1) one (cond (p == 2) two three)

abbrev pub sample_figures : ℕ → Figures
sample_figures third = record {
  backlog = λ p. by_port 40000 80000 third p;
  earliest = λ l p. by_port 0 0 21120 p;
  latest = λ l p. by_port 0 0 (cond (l == 10) 56000 96000) p;
}

-- ## A traffic

-- link 20 is released first, with a frame of 1,000 bytes, and 40 µs later link 10 with one of 500
abbrev pub frame_20 : Frame
frame_20 = record { link = 20; release = 0; length = 1000 }

abbrev pub frame_10 : Frame
frame_10 = record { link = 10; release = 40000; length = 500 }

-- both reach port 3 at 96 µs, where link 20 goes first
abbrev pub sample_traffic : Traffic
sample_traffic = record {
  frames = frame_20 ∷ frame_10 ∷ [];
  arrival = λ f p. by_port f.release f.release 96000 p;
  start = λ f p. by_port f.release f.release (cond (f.link == 20) 96000 176000) p;
}
