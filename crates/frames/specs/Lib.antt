pub mod Hex
pub mod Pasted
pub mod HexLaws
pub mod Frames
pub mod FrameLaws
pub mod FirstByte
pub mod Once
