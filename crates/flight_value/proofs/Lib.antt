pub mod KeysEqual
